use Rattle.std.proofs.Common.{◌≡◌, ◌+◌, ◌≤◌, length}
use Rattle.graph.specs.Limits.{most_nodes}
use Rattle.fencing.proofs.Going.{Going}
use Rattle.fencing.proofs.off.take_off.Given as goal

-- a node goes at each turn
abbrev pub invariant-loop : goal.invariant-loop
invariant-loop l =
    (l.counter ≤ l.end) × (l.end ≤ most_nodes) × (l.end ≡ length l.initial.graph.nodes.items)
    × (length l.graph.nodes.items + l.counter ≡ l.c + l.end)
    × Going l.initial.graph l.graph l.weight
