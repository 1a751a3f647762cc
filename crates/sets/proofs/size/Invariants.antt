use mathlib.Core.Path.{◌≡◌}
use Prim.Native.Nat.{◌*◌, ◌≤◌}
use Rattle.sets.specs.Whole.{counted}
use Rattle.sets.proofs.size.Given as goal

abbrev pub invariant-loop-w : goal.invariant-loop-w
invariant-loop-w l = (l.n ≡ counted l.fn.s l.w-index) × (l.n ≤ l.w-index * 64)
