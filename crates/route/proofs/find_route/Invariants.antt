use Rattle.std.proofs.Common.{◌-◌, length, get_or}
use Rattle.graph.specs.Limits.{most_nodes}
use Rattle.route.specs.Spread.{Spread}
use Rattle.route.specs.Way.{starts, ends}
use Rattle.route.proofs.Along.{Over}
use Rattle.route.proofs.Spreads.{Looking}
use Rattle.route.proofs.Traced.{Tracing}
use Rattle.route.proofs.find_route.Given as goal

abbrev pub invariant-loop-i : goal.invariant-loop-i
invariant-loop-i l = Spread (starts l.edges) (ends l.edges) l.left l.goal l.on l.out.items l.i 0

abbrev pub decreases-loop-i : goal.decreases-loop-i
decreases-loop-i l = most_nodes - l.i

abbrev pub invariant-loop-e : goal.invariant-loop-e
invariant-loop-e l =
    goal.iterator-loop-e.can_next l.e-iterator × goal.iterator-loop-e.is_finite l.e-iterator × Over l.ins (length l.edges) l.e-iterator
    × Looking (starts l.edges) (ends l.edges) l.left l.goal l.i (get_or l.initial.out.items l.i 0) l.on l.out.items l.e-iterator.next

abbrev pub invariant-loop-at : goal.invariant-loop-at
invariant-loop-at l = Tracing (starts l.edges) (ends l.edges) l.left l.goal l.a l.on l.at l.out.items

abbrev pub decreases-loop-at : goal.decreases-loop-at
decreases-loop-at l = most_nodes - length l.out.items
