-- A flag is a digit of its word: when it is set, and where the digits end.
-- Assumes nothing.
use mathlib.Core.Bool.{Bool, true, false}
use mathlib.Core.Path.{◌≡◌, refl, sym, ap, ◌∙◌, subst}
use Prim.Native.Nat.{ℕ, suc, ◌/◌, ◌%◌, ◌+◌, ◌^◌, ◌<◌}
use native.Mathlib.Decide.{dec_lt}
use native.Mathlib.Nat.{lt_of_lt_of_le, div-one, mod-lt, div-eq_of_lt, zero-lt-suc}
use native.Mathlib.Numerals.{one-add}
use native.Mathlib.Omega.{arith}
use lib.Pow.{pow_pos, pow_mono, shr-shr}
use lib.Dec.{eqb}
use borrow.Author.Tests.{eq-eqb, ne_eqb, eqb-true, eqb-false}
use Rattle.flags.specs.Flag.{digit, flag, above}

-- what is not set is clear
pub unset : {b : Bool} → (b ≡ true → ⊥) → b ≡ false
unset {b = true} n = absurd (n refl)
unset {b = false} n = refl

pub digit_lt : (w k : ℕ) → digit w k < 2
unfolding digit
digit_lt w k = mod-lt (w / 2 ^ k) (zero-lt-suc 1)

pub set-flag : (w k : ℕ) → digit w k ≡ 1 → flag w k ≡ true
unfolding flag
set-flag w k e = eq-eqb (digit w k) 1 e

pub flag-set : (w k : ℕ) → flag w k ≡ true → digit w k ≡ 1
unfolding flag
flag-set w k e = eqb-true (digit w k) 1 e

pub flag_clear : (w k : ℕ) → flag w k ≡ false → digit w k ≡ 0
unfolding flag
flag_clear w k e =
    let n : digit w k ≡ 1 → ⊥ = eqb-false (digit w k) 1 e in
    omega (arith, n, digit_lt w k)

pub clear_flag : (w k : ℕ) → digit w k ≡ 0 → flag w k ≡ false
unfolding flag
clear_flag w k e = ne_eqb (digit w k) 1 (λ d. omega (arith, d, e))

pub digit_zero : (j : ℕ) → digit 0 j ≡ 0
unfolding digit
digit_zero j = ap (λ (x : ℕ). x % 2) (div-eq_of_lt (pow_pos j))

pub flag_zero : (k : ℕ) → flag 0 k ≡ false
unfolding flag
flag_zero k = ne_eqb (digit 0 k) 1 (λ e. omega (arith, e, digit_zero k))

-- a word of 64 digits has no flag above them
pub flag_lt : (w k : ℕ) → w < 2 ^ 64 → flag w k ≡ true → k < 64
unfolding digit
flag_lt w k h e = elim (dec_lt k 64) [
  | yes l ↦ l
  | no l ↦
      let z : w / 2 ^ k ≡ 0 = div-eq_of_lt (lt_of_lt_of_le h (pow_mono {i = 64} {j = k} (omega (arith, l)))) in
      let one : w / 2 ^ k % 2 ≡ 1 = flag-set w k e in
      let o : 0 % 2 ≡ 1 = subst (λ (x : ℕ). x % 2 ≡ 1) z one in
      omega (arith, o)
]

pub digit_half : (n j : ℕ) → digit n (suc j) ≡ digit (n / 2) j
unfolding digit
digit_half n j = ap (λ (x : ℕ). x % 2) (ap (λ (x : ℕ). n / 2 ^ x) (sym (one-add j)) ∙ sym (shr-shr n 1 j))

pub digit_odd : (n : ℕ) → digit n 0 ≡ n % 2
unfolding digit
digit_odd n = ap (λ (x : ℕ). x % 2) (div-one n)

pub flag-above : (w k j : ℕ) → flag (above w k) j ≡ flag w (k + j)
unfolding digit flag above
flag-above w k j = ap (λ (x : ℕ). eqb (x % 2) 1) (shr-shr w k j)
