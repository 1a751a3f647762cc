use Rattle.std.proofs.Common.{◌≡◌, take}
use Rattle.cut.proofs.lists.copied.Given as goal

abbrev pub invariant-loop-edge : goal.invariant-loop-edge
invariant-loop-edge l = l.list.items ≡ take l.edge-index l.edges
