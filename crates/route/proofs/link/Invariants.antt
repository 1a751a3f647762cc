use Rattle.std.proofs.Common.{◌≡◌, get_or}
use Rattle.std.specs.Fn.{FnReturnsAt}
use Rattle.graph.specs.Graph.{no_edge}
use Rattle.route.proofs.Backwards.{Back}
use Rattle.route.proofs.link.Given as goal

abbrev pub invariant-loop-e : goal.invariant-loop-e
invariant-loop-e g l =
    (goal.iterator-loop-e g).can_next l.e-iterator × (goal.iterator-loop-e g).is_finite l.e-iterator × (l.e-iterator.iter.count ≡ 0)
    × Back l.edges (λ e v. FnReturnsAt g.F.Fn l.at (get_or l.edges e no_edge) v) l.e-iterator.iter.iter.rest.now l.l.entries
