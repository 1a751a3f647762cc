use Rattle.std.proofs.Common.{◌≡◌, length}
use Rattle.graph.specs.Limits.{most_nodes}
use Rattle.route.specs.Way.{starts, ends}
use Rattle.sets.specs.Whole.{rows}
use Rattle.walked.proofs.Fills.{Fills}
use Rattle.walked.proofs.left_of.Given as goal

abbrev pub invariant-loop-e : goal.invariant-loop-e
invariant-loop-e l =
    (length l.succ ≡ most_nodes) × Fills (starts l.edges) (ends l.edges) l.left l.e (rows l.succ)
