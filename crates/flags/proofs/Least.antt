-- The lowest set flag: it is set, none below it is, and it is below 64.
-- Assumes nothing.
use mathlib.Core.Bool.{true, false, cond}
use mathlib.Core.Path.{◌≡◌, refl, ◌∙◌, subst}
use Prim.Native.Nat.{ℕ, zero, suc, ◌*◌, ◌/◌, ◌%◌, ◌^◌, ◌<◌}
use native.Mathlib.Nat.{mod-lt, pow-suc, zero-lt-suc}
use native.Mathlib.Omega.{arith}
use native.Mathlib.Decide.{ℕ_discrete}
use lib.Dec.{eqb}
use borrow.Author.Tests.{ne_eqb}
use Rattle.std.specs.Prelude.{Some, None}
use lib.Count.{count_trailing_zeros, under}
use Rattle.flags.specs.Flag.{digit, flag, lowest}
use Rattle.flags.proofs.Digit.{clear_flag, digit_half, digit_odd, flag_lt, set-flag}

-- the flag at t is set and none below it is
abbrev pub Lowest : ℕ → ℕ → Type 0
Lowest n t = (digit n t ≡ 1) × ((j : ℕ) → j < t → digit n j ≡ 0)

lowest_step : (n t d : ℕ) → n % 2 ≡ d → d < 2 → (d ≡ 0 → Lowest (n / 2) t) → Lowest n (under d t)
lowest_step n t zero e h f = (digit_half n t ∙ (f refl).0, below)
  where
    below : (j : ℕ) → j < suc t → digit n j ≡ 0
    below zero l = digit_odd n ∙ e
    below (suc j) l = digit_half n j ∙ (f refl).1 j (omega arith)
lowest_step n t (suc zero) e h f = (digit_odd n ∙ e, λ j l. absurd (omega (arith, l)))
lowest_step n t (suc (suc d)) e h f = absurd (omega (arith, h))

trailing : (k n : ℕ) → n < 2 ^ k → (n ≡ 0 → ⊥) → Lowest n (count_trailing_zeros k n)
unfolding count_trailing_zeros
trailing zero n h z = absurd (z (omega arith))
trailing (suc k) n h z =
    lowest_step n (count_trailing_zeros k (n / 2)) (n % 2) refl (mod-lt n (zero-lt-suc 1))
    (λ e. trailing k (n / 2) (let g : n < 2 ^ k * 2 = subst (λ (x : ℕ). n < x) (pow-suc 2 k) h in omega (arith, g)) (λ y. z (omega (arith, y, e))))

-- t is the lowest set flag of w
pub record Least (w t : ℕ) : Type 0 where
  pub set : flag w t ≡ true
  pub first : (j : ℕ) → j < t → flag w j ≡ false
  pub within : t < 64

pub lowest_some : (w t : ℕ) → w < 2 ^ 64 → lowest w ≡ Some t → Least w t
unfolding lowest
lowest_some w t h e = elim (ℕ_discrete w 0) [
  | yes z ↦ absurd (let n : cond (eqb w 0) None (Some (count_trailing_zeros 64 w)) ≡ None = rw z refl in cc)
  | no n ↦
      let s : cond (eqb w 0) None (Some (count_trailing_zeros 64 w)) ≡ Some (count_trailing_zeros 64 w) = rw (ne_eqb w 0 n) refl in
      let low : Lowest w t = subst (Lowest w) (let q : count_trailing_zeros 64 w ≡ t = cc in q) (trailing 64 w h n) in
      let set : flag w t ≡ true = set-flag w t low.0 in
      record { set = set; first = λ j l. clear_flag w j (low.1 j l); within = flag_lt w t h set }
]

pub lowest_none : (w : ℕ) → lowest w ≡ None → w ≡ 0
unfolding lowest
lowest_none w e = elim (ℕ_discrete w 0) [
  | yes z ↦ z
  | no n ↦
      let s : cond (eqb w 0) None (Some (count_trailing_zeros 64 w)) ≡ Some (count_trailing_zeros 64 w) = rw (ne_eqb w 0 n) refl in
      absurd (cc)
]
