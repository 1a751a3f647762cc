use Prim.Native.Nat.{◌-◌, ◌≤◌}
use Rattle.sets.specs.Whole.{whole, most}
use Rattle.sets.proofs.Onward.{Passed}
use Rattle.sets.proofs.lowest_from.Given as goal

abbrev pub invariant-loop-k : goal.invariant-loop-k
invariant-loop-k l = (l.from ≤ l.k) × Passed (whole l.a) (whole l.b) l.from l.k

abbrev pub decreases-loop-k : goal.decreases-loop-k
decreases-loop-k l = most - l.k
