-- A flag put in, `w | (1 << k)`: the others stay, and where it was clear the count rises by one.
-- Assumes nothing.
use mathlib.Core.Bool.{true, false}
use mathlib.Core.Logic.{◌⊎◌, inl, inr}
use mathlib.Core.Path.{◌≡◌, refl, sym, ap, ap₂, ◌∙◌, subst}
use Prim.Native.Nat.{ℕ, suc, ◌+◌, ◌-◌, ◌*◌, ◌/◌, ◌%◌, ◌^◌, ◌<◌, min, max}
use native.Mathlib.Decide.{dec_lt, ℕ_discrete}
use native.Mathlib.Nat.{mod-lt, div-eq_of_lt, mul-mod_left, max-zero, one-mul, mul_comm, add-zero, pow-suc, zero-lt-suc}
use native.Mathlib.Omega.{arith}
use lib.Arith.{digits_mod}
use lib.Bits.{bit_or, bit_and, or_step, and_step, or_shr, and_shr, or_block, or_zero_r, or_lt}
use lib.Count.{ones, ones_step, ones_cat}
use lib.Dec.{eqb, lit<}
use lib.Pow.{pow_pos, pow-lt, pow-add, split, shl-shr, shl_exact}
use Rattle.flags.specs.Flag.{digit, flag, put}
use Rattle.flags.proofs.Digit.{digit_lt, flag_clear, flag_zero, set-flag}

-- ---- `|` and `&`, digit by digit

or_odd : (a b : ℕ) → bit_or a b % 2 ≡ max (a % 2) (b % 2)
or_odd a b =
    ap (λ (x : ℕ). x % 2) (or_step a b)
    ∙ digits_mod (bit_or (a / 2) (b / 2)) (omega (arith, mod-lt a (zero-lt-suc 1), mod-lt b (zero-lt-suc 1)))

and_odd : (a b : ℕ) → bit_and a b % 2 ≡ min (a % 2) (b % 2)
and_odd a b =
    ap (λ (x : ℕ). x % 2) (and_step a b)
    ∙ digits_mod (bit_and (a / 2) (b / 2)) (omega (arith, mod-lt a (zero-lt-suc 1)))

pub digit_or : (a b k : ℕ) → digit (bit_or a b) k ≡ max (digit a k) (digit b k)
unfolding digit
digit_or a b k = ap (λ (x : ℕ). x % 2) (or_shr a b k) ∙ or_odd (a / 2 ^ k) (b / 2 ^ k)

pub digit_and : (a b k : ℕ) → digit (bit_and a b) k ≡ min (digit a k) (digit b k)
unfolding digit
digit_and a b k = ap (λ (x : ℕ). x % 2) (and_shr a b k) ∙ and_odd (a / 2 ^ k) (b / 2 ^ k)

-- ---- one flag alone: `1 << k`

-- what the machine computes for `1u64 << k`
pub one_shl : (k : ℕ) → k < 64 → (1 * 2 ^ k) % 2 ^ 64 ≡ 1 * 2 ^ k
one_shl k h = shl_exact {a = 1} 1 k 64 (lit< tt) (omega arith)

pub digit-one_same : (k : ℕ) → digit (1 * 2 ^ k) k ≡ 1
unfolding digit
digit-one_same k = ap (λ (x : ℕ). x % 2) (shl-shr 1 k)

one_below : (j d : ℕ) → digit (1 * 2 ^ (j + suc d)) j ≡ 0
unfolding digit
one_below j d =
    ap (λ (x : ℕ). 1 * x / 2 ^ j % 2) (pow-add 2 j (suc d) ∙ mul_comm (2 ^ j) (2 ^ suc d))
    ∙ ap (λ (x : ℕ). x / 2 ^ j % 2) (one-mul (2 ^ suc d * 2 ^ j))
    ∙ ap (λ (x : ℕ). x % 2) (shl-shr (2 ^ suc d) j ∙ pow-suc 2 d)
    ∙ mul-mod_left (2 ^ d) 2

one-above : (j k : ℕ) → k < j → digit (1 * 2 ^ k) j ≡ 0
unfolding digit
one-above j k h = ap (λ (x : ℕ). x / 2 ^ j % 2) (one-mul (2 ^ k)) ∙ ap (λ (x : ℕ). x % 2) (div-eq_of_lt (pow-lt h))

pub digit-one_other : (k j : ℕ) → (j ≡ k → ⊥) → digit (1 * 2 ^ k) j ≡ 0
digit-one_other k j n = elim (dec_lt k j) [
  | yes h ↦ one-above j k h
  | no h ↦ let e : j + suc (k - suc j) ≡ k = omega (arith, h, n) in ap (λ (x : ℕ). digit (1 * 2 ^ x) j) (sym e) ∙ one_below j (k - suc j)
]

-- ---- a flag put in

pub put_same : (w k : ℕ) → flag (put w k) k ≡ true
unfolding put
put_same w k =
    set-flag (put w k) k
    (digit_or w (1 * 2 ^ k) k ∙ ap (max (digit w k)) (digit-one_same k) ∙ omega (arith, digit_lt w k))

pub put_other : (w k j : ℕ) → (j ≡ k → ⊥) → flag (put w k) j ≡ flag w j
unfolding flag put
put_other w k j n = ap (λ (x : ℕ). eqb x 1) (digit_or w (1 * 2 ^ k) j ∙ ap (max (digit w j)) (digit-one_other k j n) ∙ max-zero (digit w j))

-- setting a clear flag raises the count by one: cut both words at k, where w has an even upper part
or-one : (a : ℕ) → a % 2 ≡ 0 → bit_or a 1 ≡ a / 2 * 2 + 1
or-one a e = or_step a 1 ∙ ap₂ (λ (x y : ℕ). x * 2 + max y 1) (or_zero_r (a / 2)) e

ones_1 : ones 1 ≡ 1
unfolding ones
ones_1 = refl

ones_or-one : (a : ℕ) → a % 2 ≡ 0 → ones (bit_or a 1) ≡ ones a + 1
ones_or-one a e =
    let one : ones 1 ≡ 1 = ones_1 in
    let l : ones (a / 2 * 2 + 1) ≡ ones (a / 2) + ones 1 = ones_cat 1 (a / 2) 1 (lit< tt) in
    let r : ones a ≡ a % 2 + ones (a / 2) = ones_step a in
    ap ones (or-one a e) ∙ omega arith

pub put_count : (w k : ℕ) → flag w k ≡ false → ones (put w k) ≡ ones w + 1
unfolding digit put
put_count w k e =
    let hi = w / 2 ^ k in
    let lo = w % 2 ^ k in
    let even : hi % 2 ≡ 0 = flag_clear w k e in
    let lo-lt : lo < 2 ^ k = mod-lt w (pow_pos k) in
    let cut : bit_or w (1 * 2 ^ k) ≡ bit_or hi 1 * 2 ^ k + lo =
    ap₂ bit_or (sym (split w k)) (sym (add-zero (1 * 2 ^ k))) ∙ or_block k hi 1 lo 0 lo-lt (pow_pos k)
    ∙ ap (λ (x : ℕ). bit_or hi 1 * 2 ^ k + x) (or_zero_r lo) in
    let new : ones (bit_or hi 1 * 2 ^ k + lo) ≡ ones (bit_or hi 1) + ones lo = ones_cat k (bit_or hi 1) lo lo-lt in
    let old : ones (hi * 2 ^ k + lo) ≡ ones hi + ones lo = ones_cat k hi lo lo-lt in
    let same : ones w ≡ ones (hi * 2 ^ k + lo) = ap ones (sym (split w k)) in
    let up : ones (bit_or hi 1) ≡ ones hi + 1 = ones_or-one hi even in
    ap ones cut ∙ omega arith

pub put_lt : (w k : ℕ) → w < 2 ^ 64 → k < 64 → put w k < 2 ^ 64
unfolding put
put_lt w k h l = or_lt 64 w (1 * 2 ^ k) h (subst (λ (x : ℕ). x < 2 ^ 64) (sym (one-mul (2 ^ k))) (pow-lt l))

-- a flag of `put w k`, by cases
pub put_cases : (w k j : ℕ) → flag (put w k) j ≡ true → (j ≡ k) ⊎ (flag w j ≡ true)
put_cases w k j e = elim (ℕ_discrete j k) [ yes p ↦ inl p | no n ↦ inr (sym (put_other w k j n) ∙ e) ]

pub put_keeps : (w k j : ℕ) → flag w j ≡ true → flag (put w k) j ≡ true
put_keeps w k j e = elim (ℕ_discrete j k) [
  | yes p ↦ ap (λ (x : ℕ). flag (put w k) x) p ∙ put_same w k
  | no n ↦ put_other w k j n ∙ e
]

pub put_zero_count : (k : ℕ) → ones (put 0 k) ≡ 1
unfolding ones
put_zero_count k = put_count 0 k (flag_zero k)
