use Rattle.std.proofs.Common.{◌-◌, length}
use Rattle.hope.specs.Hope.{most_pairs}
use Rattle.route.proofs.Along.{Over}
use Rattle.sets.specs.Whole.{whole, rows}
use Rattle.unordered.proofs.Going.{query}
use Rattle.unordered.proofs.Trails.{Trails}
use Rattle.unordered.proofs.Turns.{Done, Turn}
use Rattle.unordered.proofs.pairs.spread.Given as goal

abbrev pub invariant-loop-e : goal.invariant-loop-e
invariant-loop-e l =
    goal.iterator-loop-e.can_next l.e-iterator × goal.iterator-loop-e.is_finite l.e-iterator × Over l.outs (length l.edges) l.e-iterator
    × Turn (query l.edges l.fits l.left l.a l.goal) l.pairs.list.items (rows l.kept) l.i (whole l.ordered) l.e-iterator.next

abbrev pub invariant-loop-i : goal.invariant-loop-i
invariant-loop-i l =
    let s = query l.edges l.fits l.left l.a l.goal in let ps = l.pairs.list.items in Done s ps (rows l.kept) l.i × Trails s ps (rows l.kept)

abbrev pub decreases-loop-i : goal.decreases-loop-i
decreases-loop-i l = most_pairs - l.i
