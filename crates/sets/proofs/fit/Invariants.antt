use Prim.Native.Nat.{ℕ, ◌^◌, ◌<◌}
use lib.ListN.{get_or}
use Rattle.sets.proofs.fit.Given as goal

abbrev pub invariant-loop-w : goal.invariant-loop-w
invariant-loop-w g l = (i : ℕ) → i < l.w-index → get_or l.s i 0 < 2 ^ 64
