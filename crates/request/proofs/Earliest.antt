-- The earliest number that passes a test, and whether some number does.
-- Assumes nothing.
use mathlib.Core.Bool.{Bool, ◌||◌, false, true}
use mathlib.Core.Path.{◌∙◌, ◌≡◌, ap, refl}
use Rattle.std.specs.List.{list_any, range_with_len}
use Prim.Native.Nat.{◌+◌, ◌<◌, ◌≤◌, suc, zero, ℕ}
use native.Mathlib.Decide.{ℕ_discrete}
use native.Mathlib.Omega.{arith}
use Rattle.request.specs.Earliest.{any, earliest, earliest_from}

earliest_from_is : (p : ℕ → Bool) (n i j : ℕ) → i ≤ j → j < i + n → ((k : ℕ) → k < j → p k ≡ false) → p j ≡ true → earliest_from p n i ≡ j
unfolding earliest_from
earliest_from_is p zero i j l h f e = absurd (omega arith)
earliest_from_is p (suc n) i j l h f e = elim (ℕ_discrete i j) [
  | yes q ↦ rw (q, e) refl
  | no q ↦ rw (f i (omega (arith, q))) (earliest_from_is p n (suc i) j (omega (arith, q)) (omega arith) f e)
]

pub earliest_is : (p : ℕ → Bool) (n j : ℕ) → j < n → ((k : ℕ) → k < j → p k ≡ false) → p j ≡ true → earliest p n ≡ j
earliest_is p n j l f e = earliest_from_is p n 0 j (omega arith) (omega arith) f e

earliest_from_none : (p : ℕ → Bool) (n i : ℕ) → ((k : ℕ) → k < i + n → p k ≡ false) → earliest_from p n i ≡ i + n
unfolding earliest_from
earliest_from_none p zero i f = omega arith
earliest_from_none p (suc n) i f = rw (f i (omega arith)) (earliest_from_none p n (suc i) (λ k h. f k (omega arith)) ∙ omega arith)

pub earliest_none : (p : ℕ → Bool) (n : ℕ) → ((k : ℕ) → k < n → p k ≡ false) → earliest p n ≡ n
earliest_none p n f = earliest_from_none p n 0 (λ k h. f k (omega arith)) ∙ omega arith

-- ---- some number passes a test

swap : (a b c : Bool) → (a || (b || c)) ≡ (b || (a || c))
swap true true c = refl
swap true false c = refl
swap false b c = refl

any_top : (p : ℕ → Bool) (a n j : ℕ) → a + n ≡ j → list_any p (range_with_len a (suc n)) ≡ (p j || list_any p (range_with_len a n))
any_top p a zero j e = let q : a ≡ j = omega (arith, e) in rw q refl
any_top p a (suc n) j e = rw (any_top p (a + 1) n j (omega (arith, e))) (swap (p a) (p j) (list_any p (range_with_len (a + 1) n)))

-- the numbers below n as a list
pub any_listed : (p : ℕ → Bool) (n : ℕ) → list_any p (range_with_len 0 n) ≡ any p n
unfolding any
any_listed p zero = refl
any_listed p (suc n) = any_top p 0 n n (omega arith) ∙ ap (λ (b : Bool). p n || b) (any_listed p n)
