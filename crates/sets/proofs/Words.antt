-- The words of a set, over any number of words: its flags, its count, a number put in or taken out, and two sets word by word.
-- Assumes nothing.
use mathlib.Core.List.{List, [], ◌∷◌}
use mathlib.Core.Path.{◌≡◌, refl, sym, ap, ap₂, ◌∙◌}
use Prim.Native.Nat.{ℕ, zero, suc, ◌+◌, ◌-◌, ◌*◌, ◌/◌, ◌%◌, ◌^◌, ◌<◌, ◌≤◌}
use native.Mathlib.Decide.{ℕ_discrete}
use native.Mathlib.Nat.{one-mul, mul_comm, add-zero, zero-lt-suc}
use native.Mathlib.Omega.{arith}
use lib.Bits.{bit_or, bit_and, bit_xor, or_block, and_block, xor_block, and_lt, or_zero_r}
use lib.Count.{ones, ones_cat, ones-le}
use lib.Dec.{eqb}
use lib.ListN.{length, get_or, set, length-set}
use lib.Pow.{pow_pos, pow-lt, pow-add, high, low, field, mod-mod-pow, shr-shr}
use lib.Seq.{get_or-set_same, get_or-set_other}
use Rattle.flags.specs.Flag.{digit, flag, put, either, both, less}
use Rattle.flags.proofs.Digit.{flag_zero}
use Rattle.flags.proofs.Pair.{less_zero}
use Rattle.flags.proofs.Put.{put_lt}
use Rattle.sets.specs.Whole.{Small, whole, counted}

-- ---- the digits of a long word: those of its lowest word, then those of the rest

digit_low : (a r k : ℕ) → r < 2 ^ 64 → k < 64 → digit (a * 2 ^ 64 + r) k ≡ digit r k
unfolding digit
digit_low a r k h l =
    let n = a * 2 ^ 64 + r in
    let e : (63 - k) + (1 + k) ≡ 64 = omega arith in
    let m : n % 2 ^ (1 + k) ≡ r % 2 ^ (1 + k) =
    sym (mod-mod-pow n (63 - k) (1 + k)) ∙ ap (λ (x : ℕ). x % 2 ^ (1 + k)) (ap (λ (x : ℕ). n % 2 ^ x) e ∙ low a 64 h) in
    sym (field n 1 k) ∙ ap (λ (x : ℕ). x / 2 ^ k) m ∙ field r 1 k

digit_high : (a r k : ℕ) → r < 2 ^ 64 → digit (a * 2 ^ 64 + r) (64 + k) ≡ digit a k
unfolding digit
digit_high a r k h = ap (λ (x : ℕ). x % 2) (sym (shr-shr (a * 2 ^ 64 + r) 64 k) ∙ ap (λ (x : ℕ). x / 2 ^ k) (high a 64 h))

flag_low : (a r k : ℕ) → r < 2 ^ 64 → k < 64 → flag (a * 2 ^ 64 + r) k ≡ flag r k
unfolding flag
flag_low a r k h l = ap (λ (x : ℕ). eqb x 1) (digit_low a r k h l)

flag_high : (a r k : ℕ) → r < 2 ^ 64 → flag (a * 2 ^ 64 + r) (64 + k) ≡ flag a k
unfolding flag
flag_high a r k h = ap (λ (x : ℕ). eqb x 1) (digit_high a r k h)

pub whole-flag : (ws : List ℕ) (i j : ℕ) → Small ws → j < 64 → flag (whole ws) (i * 64 + j) ≡ flag (get_or ws i 0) j
unfolding whole
whole-flag [] i j s h = flag_zero (i * 64 + j) ∙ sym (flag_zero j)
whole-flag (w ∷ ws) zero j s h =
    let e : 0 * 64 + j ≡ j = omega arith in
    ap (flag (whole ws * 2 ^ 64 + w)) e ∙ flag_low (whole ws) w j (s 0) h
whole-flag (w ∷ ws) (suc i) j s h =
    let e : suc i * 64 + j ≡ 64 + (i * 64 + j) = omega arith in
    ap (flag (whole ws * 2 ^ 64 + w)) e ∙ flag_high (whole ws) w (i * 64 + j) (s 0) ∙ whole-flag ws i j (λ k. s (suc k)) h

-- flag k stands in word k / 64
pub whole_at : (ws : List ℕ) (k : ℕ) → Small ws → flag (whole ws) k ≡ flag (get_or ws (k / 64) 0) (k % 64)
whole_at ws k s =
    let e : k ≡ k / 64 * 64 + k % 64 = omega arith in
    ap (flag (whole ws)) e ∙ whole-flag ws (k / 64) (k % 64) s (omega arith)

-- ---- the count: the sum over the words

counted_shift : (w : ℕ) (ws : List ℕ) (i : ℕ) → counted (w ∷ ws) (suc i) ≡ ones w + counted ws i
counted_shift w ws zero = omega arith
counted_shift w ws (suc i) = omega (arith, counted_shift w ws i)

pub whole_ones : (ws : List ℕ) → Small ws → ones (whole ws) ≡ counted ws (length ws)
unfolding whole ones
whole_ones [] s = refl
whole_ones (w ∷ ws) s =
    ones_cat 64 (whole ws) w (s 0) ∙ omega (arith, whole_ones ws (λ k. s (suc k)), counted_shift w ws (length ws))

counted_le : (ws : List ℕ) (n : ℕ) → Small ws → counted ws n ≤ n * 64
counted_le ws zero s = omega arith
counted_le ws (suc n) s = omega (arith, counted_le ws n s, ones-le 64 (get_or ws n 0) (s n))

ones_most : (ws : List ℕ) (n : ℕ) → length ws ≡ n → Small ws → ones (whole ws) ≤ n * 64
ones_most ws n e s = omega (arith, whole_ones ws s, counted_le ws (length ws) s, e)

-- ---- a number put in

put_low : (a w j : ℕ) → w < 2 ^ 64 → j < 64 → a * 2 ^ 64 + put w j ≡ put (a * 2 ^ 64 + w) j
unfolding put
put_low a w j h l =
    let one : 1 * 2 ^ j < 2 ^ 64 = rw one-mul (pow-lt l) in
    let z : 1 * 2 ^ j ≡ 0 * 2 ^ 64 + 1 * 2 ^ j = omega arith in
    sym (ap (bit_or (a * 2 ^ 64 + w)) z ∙ or_block 64 a 0 w (1 * 2 ^ j) h one ∙ ap (λ (x : ℕ). x * 2 ^ 64 + bit_or w (1 * 2 ^ j)) (or_zero_r a))

put_high : (a w k : ℕ) → w < 2 ^ 64 → put a k * 2 ^ 64 + w ≡ put (a * 2 ^ 64 + w) (64 + k)
unfolding put
put_high a w k h =
    let e : 1 * 2 ^ k * 2 ^ 64 + 0 ≡ 1 * 2 ^ (64 + k) =
    add-zero (1 * 2 ^ k * 2 ^ 64) ∙ ap (λ (x : ℕ). x * 2 ^ 64) (one-mul (2 ^ k)) ∙ mul_comm (2 ^ k) (2 ^ 64) ∙ sym (pow-add 2 64 k)
    ∙ sym (one-mul (2 ^ (64 + k))) in
    sym (ap (bit_or (a * 2 ^ 64 + w)) (sym e) ∙ or_block 64 a (1 * 2 ^ k) w 0 h (pow_pos 64) ∙ ap (λ (x : ℕ). bit_or a (1 * 2 ^ k) * 2 ^ 64 + x) (or_zero_r w))

whole-put : (ws : List ℕ) (i j : ℕ) → Small ws → i < length ws → j < 64 → whole (set ws i (put (get_or ws i 0) j)) ≡ put (whole ws) (i * 64 + j)
unfolding whole
whole-put [] i j s h l = absurd (omega (arith, h))
whole-put (w ∷ ws) zero j s h l =
    let e : j ≡ 0 * 64 + j = omega arith in
    put_low (whole ws) w j (s 0) l ∙ ap (put (whole ws * 2 ^ 64 + w)) e
whole-put (w ∷ ws) (suc i) j s h l =
    let e : 64 + (i * 64 + j) ≡ suc i * 64 + j = omega arith in
    ap (λ (x : ℕ). x * 2 ^ 64 + w) (whole-put ws i j (λ k. s (suc k)) (omega (arith, h)) l) ∙ put_high (whole ws) w (i * 64 + j) (s 0)
    ∙ ap (put (whole ws * 2 ^ 64 + w)) e

small_put : (ws : List ℕ) (i j : ℕ) → Small ws → i < length ws → j < 64 → Small (set ws i (put (get_or ws i 0) j))
small_put ws i j s h l k = elim (ℕ_discrete k i) [
  | yes p ↦ rw (p, get_or-set_same ws i (put (get_or ws i 0) j) 0 h) (put_lt (get_or ws i 0) j (s i) l)
  | no n ↦ rw (get_or-set_other ws i k (put (get_or ws i 0) j) 0 n) (s k)
]

-- the same by the number itself: k is put in word k / 64, and n words have room for it
pub put_whole : (n : ℕ) (ws : List ℕ) (k : ℕ) → (length ws ≡ n) × Small ws → k < n * 64
    → (whole (set ws (k / 64) (put (get_or ws (k / 64) 0) (k % 64))) ≡ put (whole ws) k)
    × (ones (whole (set ws (k / 64) (put (get_or ws (k / 64) 0) (k % 64)))) ≤ n * 64)
put_whole n ws k (len, s) h =
    let i = k / 64 in
    let j = k % 64 in
    let at : i < length ws = omega (arith, len, h) in
    let low' : j < 64 = omega arith in
    let is : i * 64 + j ≡ k = omega arith in (
      whole-put ws i j s at low' ∙ ap (put (whole ws)) is,
      ones_most (set ws i (put (get_or ws i 0) j)) n (length-set ws i (put (get_or ws i 0) j) ∙ len) (small_put ws i j s at low'),
    )

-- ---- a number taken out

less_block : (a b r s : ℕ) → r < 2 ^ 64 → s < 2 ^ 64 → less (a * 2 ^ 64 + r) (b * 2 ^ 64 + s) ≡ less a b * 2 ^ 64 + less r s
unfolding less
less_block a b r s p q = ap (bit_xor (a * 2 ^ 64 + r)) (and_block 64 a b r s p q) ∙ xor_block 64 a (bit_and a b) r (bit_and r s) p (and_lt 64 r s p q)

-- one number alone
one_low : (j : ℕ) → put 0 j ≡ 0 * 2 ^ 64 + put 0 j
one_low j = omega arith

one_high : (k : ℕ) → put 0 (64 + k) ≡ put 0 k * 2 ^ 64 + 0
one_high k = let z : 0 ≡ 0 * 2 ^ 64 + 0 = omega arith in ap (λ (x : ℕ). put x (64 + k)) z ∙ sym (put_high 0 0 k (pow_pos 64))

whole_out : (ws : List ℕ) (i j : ℕ) → Small ws → i < length ws → j < 64 → whole (set ws i (less (get_or ws i 0) (put 0 j))) ≡ less (whole ws) (put 0 (i * 64 + j))
unfolding whole
whole_out [] i j s h l = absurd (omega (arith, h))
whole_out (w ∷ ws) zero j s h l =
    let e : j ≡ 0 * 64 + j = omega arith in
    ap (λ (x : ℕ). x * 2 ^ 64 + less w (put 0 j)) (sym (less_zero (whole ws)))
    ∙ sym (ap (less (whole ws * 2 ^ 64 + w)) (one_low j) ∙ less_block (whole ws) 0 w (put 0 j) (s 0) (put_lt 0 j (pow_pos 64) l))
    ∙ ap (λ (x : ℕ). less (whole ws * 2 ^ 64 + w) (put 0 x)) e
whole_out (w ∷ ws) (suc i) j s h l =
    let e : 64 + (i * 64 + j) ≡ suc i * 64 + j = omega arith in
    ap₂ (λ (x y : ℕ). x * 2 ^ 64 + y) (whole_out ws i j (λ k. s (suc k)) (omega (arith, h)) l) (sym (less_zero w))
    ∙ sym (ap (less (whole ws * 2 ^ 64 + w)) (one_high (i * 64 + j)) ∙ less_block (whole ws) (put 0 (i * 64 + j)) w 0 (s 0) (pow_pos 64))
    ∙ ap (λ (x : ℕ). less (whole ws * 2 ^ 64 + w) (put 0 x)) e

-- the same by the number itself
pub out_whole : (n : ℕ) (ws : List ℕ) (k : ℕ) → (length ws ≡ n) × Small ws → k < n * 64
    → whole (set ws (k / 64) (less (get_or ws (k / 64) 0) (put 0 (k % 64)))) ≡ less (whole ws) (put 0 k)
out_whole n ws k (len, s) h =
    let is : k / 64 * 64 + k % 64 ≡ k = omega arith in
    whole_out ws (k / 64) (k % 64) s (omega (arith, len, h)) (omega arith) ∙ ap (λ (x : ℕ). less (whole ws) (put 0 x)) is

-- ---- two sets, word by word: what is done to the words is done to the sets

-- an operation that goes word by word
pub record Wordwise (op : ℕ → ℕ → ℕ) : Type 0 where
  pub nothing : op 0 0 ≡ 0
  pub block : (a b r s : ℕ) → r < 2 ^ 64 → s < 2 ^ 64 → op (a * 2 ^ 64 + r) (b * 2 ^ 64 + s) ≡ op a b * 2 ^ 64 + op r s

module _ {op : ℕ → ℕ → ℕ} where
  pub all_words : Wordwise op → (a b r : List ℕ) (n : ℕ) → length a ≡ n → length b ≡ n → length r ≡ n → Small a → Small b
      → ((j : ℕ) → j < n → get_or r j 0 ≡ op (get_or a j 0) (get_or b j 0))
      → whole r ≡ op (whole a) (whole b)
  unfolding whole
  all_words o [] [] [] n p q l s t m = sym o.nothing
  all_words o [] [] (z ∷ r) n p q l s t m = absurd (omega (arith, p, l))
  all_words o [] (y ∷ b) r n p q l s t m = absurd (omega (arith, p, q))
  all_words o (x ∷ a) [] r n p q l s t m = absurd (omega (arith, p, q))
  all_words o (x ∷ a) (y ∷ b) [] n p q l s t m = absurd (omega (arith, p, l))
  all_words o (x ∷ a) (y ∷ b) (z ∷ r) zero p q l s t m = absurd (omega (arith, p))
  all_words o (x ∷ a) (y ∷ b) (z ∷ r) (suc n) p q l s t m =
      ap₂ (λ (u v : ℕ). u * 2 ^ 64 + v)
      (all_words o a b r n (omega (arith, p)) (omega (arith, q)) (omega (arith, l)) (λ k. s (suc k)) (λ k. t (suc k)) (λ j h. m (suc j) (omega (arith, h))))
      (m 0 (zero-lt-suc n))
      ∙ sym (o.block (whole a) (whole b) x y (s 0) (t 0))

pub either_wordwise : Wordwise either
unfolding either
either_wordwise = record { nothing = refl; block = λ a b r s p q. or_block 64 a b r s p q }

pub both_wordwise : Wordwise both
unfolding both
both_wordwise = record { nothing = refl; block = λ a b r s p q. and_block 64 a b r s p q }

pub less_wordwise : Wordwise less
unfolding less
less_wordwise = record { nothing = refl; block = less_block }
