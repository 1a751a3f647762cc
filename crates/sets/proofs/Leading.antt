-- What is known of a set once a number more is put in, and where nothing is left of it.
-- Assumes nothing.
use mathlib.Core.Bool.{true, false, true≢false}
use mathlib.Core.Path.{◌≡◌, sym, ap, ◌∙◌}
use Prim.Native.Nat.{ℕ, ◌+◌, ◌<◌, ◌≤◌}
use native.Mathlib.Omega.{arith}
use lib.Count.{ones}
use Rattle.flags.specs.Flag.{flag, put}
use Rattle.flags.proofs.Digit.{unset, flag_zero}
use Rattle.flags.proofs.Put.{put_count}
use Rattle.sets.specs.Whole.{most}

-- one more is put in, and there was room for it
pub put_room : (s k more : ℕ) → flag s k ≡ false → more ≡ put s k → ones more ≤ most → (ones more ≡ ones s + 1) × (ones s < most)
put_room s k more new e few = let up : ones more ≡ ones s + 1 = ap ones e ∙ put_count s k new in (up, omega (arith, up, few))

-- nothing of a is left where nothing is in b
pub all_out : (a b : ℕ) → b ≡ 0 → ((j : ℕ) → flag a j ≡ true → flag b j ≡ true) → (j : ℕ) → flag a j ≡ false
all_out a b z all j = unset (λ p. true≢false (sym (all j p) ∙ rw z (flag_zero j)))
