-- The words of two words: the flags of either, of both, and of one and not the other.
-- Assumes nothing.
use mathlib.Core.Bool.{Bool, true, false, not, ◌&&◌, ◌||◌, and-false, or-true, true≢false}
use mathlib.Core.Logic.{◌⊎◌, inl, inr}
use mathlib.Core.Path.{◌≡◌, refl, sym, ap, ◌∙◌}
use Prim.Native.Nat.{ℕ, zero, suc, ◌/◌, ◌%◌, ◌^◌, ◌<◌, min, max}
use native.Mathlib.Nat.{mod-lt, zero-lt-suc}
use native.Mathlib.Omega.{arith}
use lib.Arith.{digits_mod}
use lib.Bits.{bit_xor, differ, xor_step, xor_shr, and_zero_r, xor_zero_r}
use lib.Dec.{eqb}
use borrow.Author.Tests.{not-true, not-false}
use Rattle.flags.specs.Flag.{digit, flag, either, both, less}
use Rattle.flags.proofs.Digit.{digit_lt}
use Rattle.flags.proofs.Put.{digit_and, digit_or}

-- what holds of 0 and 1 holds of two digits
digits : (P : ℕ → ℕ → Type 0) → P 0 0 → P 0 1 → P 1 0 → P 1 1 → (x y : ℕ) → x < 2 → y < 2 → P x y
digits P a b c d zero zero p q = a
digits P a b c d zero (suc zero) p q = b
digits P a b c d (suc zero) zero p q = c
digits P a b c d (suc zero) (suc zero) p q = d
digits P a b c d (suc (suc x)) y p q = absurd (let z : ⊥ = omega arith in z)
digits P a b c d zero (suc (suc y)) p q = absurd (let z : ⊥ = omega arith in z)
digits P a b c d (suc zero) (suc (suc y)) p q = absurd (let z : ⊥ = omega arith in z)

xor_odd : (a b : ℕ) → bit_xor a b % 2 ≡ differ (a % 2) (b % 2)
xor_odd a b =
    ap (λ (x : ℕ). x % 2) (xor_step a b)
    ∙ digits_mod (bit_xor (a / 2) (b / 2)) (digits (λ x y. differ x y < 2) (omega arith) (omega arith) (omega arith) (omega arith)
    (a % 2) (b % 2) (mod-lt a (zero-lt-suc 1)) (mod-lt b (zero-lt-suc 1)))

digit_xor : (a b k : ℕ) → digit (bit_xor a b) k ≡ differ (digit a k) (digit b k)
unfolding digit
digit_xor a b k = ap (λ (x : ℕ). x % 2) (xor_shr a b k) ∙ xor_odd (a / 2 ^ k) (b / 2 ^ k)

-- ---- each as one equation

module _ (a b k : ℕ) where
  by_digits : (P : ℕ → ℕ → Type 0) → P 0 0 → P 0 1 → P 1 0 → P 1 1 → P (digit a k) (digit b k)
  by_digits P c d e f = digits P c d e f (digit a k) (digit b k) (digit_lt a k) (digit_lt b k)

  pub either-flag : flag (either a b) k ≡ (flag a k || flag b k)
  unfolding flag either
  either-flag = ap (λ (x : ℕ). eqb x 1) (digit_or a b k) ∙ by_digits (λ x y. eqb (max x y) 1 ≡ (eqb x 1 || eqb y 1)) refl refl refl refl

  pub both-flag : flag (both a b) k ≡ (flag a k && flag b k)
  unfolding flag both
  both-flag = ap (λ (x : ℕ). eqb x 1) (digit_and a b k) ∙ by_digits (λ x y. eqb (min x y) 1 ≡ (eqb x 1 && eqb y 1)) refl refl refl refl

  pub less-flag : flag (less a b) k ≡ (flag a k && not (flag b k))
  unfolding flag less both
  less-flag =
      ap (λ (x : ℕ). eqb x 1) (digit_xor a (both a b) k ∙ ap (differ (digit a k)) (digit_and a b k))
      ∙ by_digits (λ x y. eqb (differ x (min x y)) 1 ≡ (eqb x 1 && not (eqb y 1))) refl refl refl refl

-- ---- and so by cases

or_cases : (x y : Bool) → (x || y) ≡ true → (x ≡ true) ⊎ (y ≡ true)
or_cases true y e = inl refl
or_cases false y e = inr e

and_true_both : (x y : Bool) → (x && y) ≡ true → (x ≡ true) × (y ≡ true)
and_true_both true y e = (refl, e)
and_true_both false y e = (e, absurd (true≢false (sym e)))

module _ (a b k : ℕ) where
  pub either_l : flag a k ≡ true → flag (either a b) k ≡ true
  either_l e = rw (either-flag a b k, e) refl

  pub either_r : flag b k ≡ true → flag (either a b) k ≡ true
  either_r e = rw (either-flag a b k, e) (or-true (flag a k))

  pub either_cases : flag (either a b) k ≡ true → (flag a k ≡ true) ⊎ (flag b k ≡ true)
  either_cases e = or_cases (flag a k) (flag b k) (sym (either-flag a b k) ∙ e)

  pub both_true : flag (both a b) k ≡ true → (flag a k ≡ true) × (flag b k ≡ true)
  both_true e = and_true_both (flag a k) (flag b k) (sym (both-flag a b k) ∙ e)

  pub less_in : flag a k ≡ true → flag b k ≡ false → flag (less a b) k ≡ true
  less_in p q = rw (less-flag a b k, p, q) refl

  less_both : flag (less a b) k ≡ true → (flag a k ≡ true) × (not (flag b k) ≡ true)
  less_both e = and_true_both (flag a k) (not (flag b k)) (sym (less-flag a b k) ∙ e)

  pub less_l : flag (less a b) k ≡ true → flag a k ≡ true
  less_l e = (less_both e).0

  pub less_out : flag b k ≡ true → flag (less a b) k ≡ false
  less_out q = rw (less-flag a b k, q) (and-false (flag a k))

  pub less_new : flag (less a b) k ≡ true → flag b k ≡ false
  less_new e = not-true _ (less_both e).1

  -- what is gone of a is in b
  pub less_gone : flag (less a b) k ≡ false → flag a k ≡ true → flag b k ≡ true
  less_gone e h = not-false _ (ap (λ (x : Bool). x && not (flag b k)) (sym h) ∙ sym (less-flag a b k) ∙ e)

pub less_zero : (a : ℕ) → less a 0 ≡ a
unfolding less
less_zero a = ap (bit_xor a) (and_zero_r a) ∙ xor_zero_r a
