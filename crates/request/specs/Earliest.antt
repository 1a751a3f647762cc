-- The earliest number that passes a test, and whether some number does.
-- Assumes nothing.
use Rattle.std.specs.Prelude.{Bool, false, ◌||◌, cond, ℕ, zero, suc}

-- the earliest of the n numbers from i on that passes p; i + n where none does
unfoldable pub earliest_from : (ℕ → Bool) → ℕ → ℕ → ℕ
earliest_from p zero i = i
earliest_from p (suc n) i = cond (p i) i (earliest_from p n (suc i))

-- the earliest number below n that passes p; n where none does
abbrev pub earliest : (ℕ → Bool) → ℕ → ℕ
earliest p n = earliest_from p n 0

-- whether some number below n passes p
unfoldable pub any : (ℕ → Bool) → ℕ → Bool
any p zero = false
any p (suc n) = p n || any p n
