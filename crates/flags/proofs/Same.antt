-- A word is known by its flags; so a number that is put in and taken out again leaves the word as it was.
-- Assumes nothing.
use mathlib.Core.Bool.{Bool, true, false, and-true}
use mathlib.Core.Path.{◌≡◌, refl, sym, subst, ◌∙◌}
use Prim.Native.Nat.{ℕ, zero, suc, ◌+◌, ◌*◌, ◌/◌, ◌%◌, ◌^◌, ◌<◌}
use native.Mathlib.Decide.{ℕ_discrete}
use native.Mathlib.Nat.{lt_of_lt_of_le, pow-suc}
use native.Mathlib.Omega.{arith}
use lib.Pow.{pow_pos, pow_mono}
use Rattle.flags.specs.Flag.{digit, flag, put, less}
use Rattle.flags.proofs.Digit.{digit_half, digit_odd, flag_clear, flag-set, flag_zero}
use Rattle.flags.proofs.Pair.{less-flag, less_out}
use Rattle.flags.proofs.Put.{put_same, put_other}

-- a number has as many digits as it says
within : (n : ℕ) → n < 2 ^ n
within zero = pow_pos 0
within (suc n) = let e : 2 ^ suc n ≡ 2 ^ n * 2 = pow-suc 2 n in omega (arith, e, within n)

same_digits : (d a b : ℕ) → a < 2 ^ d → b < 2 ^ d → ((k : ℕ) → digit a k ≡ digit b k) → a ≡ b
same_digits zero a b p q e = omega (arith, p, q)
same_digits (suc d) a b p q e =
    let p' : a < 2 ^ d * 2 = subst (λ (x : ℕ). a < x) (pow-suc 2 d) p in
    let q' : b < 2 ^ d * 2 = subst (λ (x : ℕ). b < x) (pow-suc 2 d) q in
    let half : a / 2 ≡ b / 2 = same_digits d (a / 2) (b / 2) (omega (arith, p')) (omega (arith, q')) (λ k. sym (digit_half a k) ∙ e (suc k) ∙ digit_half b k) in
    let odd : a % 2 ≡ b % 2 = sym (digit_odd a) ∙ e 0 ∙ digit_odd b in
    omega (arith, half, odd)

pub same_flags : (a b : ℕ) → ((k : ℕ) → flag a k ≡ flag b k) → a ≡ b
same_flags a b e =
    same_digits (a + b) a b (lt_of_lt_of_le (within a) (pow_mono {i = a} {j = a + b} (omega arith)))
    (lt_of_lt_of_le (within b) (pow_mono {i = b} {j = a + b} (omega arith)))
    (λ k. by k (flag b k) refl)
  where
    by : (k : ℕ) (x : Bool) → flag b k ≡ x → digit a k ≡ digit b k
    by k true f = flag-set a k (e k ∙ f) ∙ sym (flag-set b k f)
    by k false f = flag_clear a k (e k ∙ f) ∙ sym (flag_clear b k f)

pub put_out : (w k : ℕ) → flag w k ≡ false → less (put w k) (put 0 k) ≡ w
put_out w k e = same_flags (less (put w k) (put 0 k)) w (λ j. go j (ℕ_discrete j k))
  where
    go : (j : ℕ) → Dec (j ≡ k) → flag (less (put w k) (put 0 k)) j ≡ flag w j
    go j (yes z) = rw z (less_out (put w k) (put 0 k) k (put_same 0 k) ∙ sym e)
    go j (no n) = rw (less-flag (put w k) (put 0 k) j, put_other w k j n, put_other 0 k j n, flag_zero j) (and-true (flag w j))
