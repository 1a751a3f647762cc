-- The first places of a list written over, and put back before the others.
use Rattle.std.proofs.Common.{◌≡◌, ℕ, zero, suc, List, [], ◌∷◌, ◌++◌, take, drop, length, refl, ap, arith}

module _ {X : Type 0} where
  pub front_long : (n : ℕ) (xs ys : List X) → length ys ≡ length (take n xs)
      → length (ys ++ drop n xs) ≡ length xs
  front_long zero xs [] e = refl
  front_long zero xs (y ∷ ys) e = absurd (omega (arith, e))
  front_long (suc n) [] [] e = refl
  front_long (suc n) [] (y ∷ ys) e = absurd (omega (arith, e))
  front_long (suc n) (x ∷ xs) [] e = absurd (omega (arith, e))
  front_long (suc n) (x ∷ xs) (y ∷ ys) e = ap suc (front_long n xs ys (omega (arith, e)))

  pub front_read : (n : ℕ) (xs ys : List X) → length ys ≡ length (take n xs)
      → take n (ys ++ drop n xs) ≡ ys
  front_read zero xs [] e = refl
  front_read zero xs (y ∷ ys) e = absurd (omega (arith, e))
  front_read (suc n) [] [] e = refl
  front_read (suc n) [] (y ∷ ys) e = absurd (omega (arith, e))
  front_read (suc n) (x ∷ xs) [] e = absurd (omega (arith, e))
  front_read (suc n) (x ∷ xs) (y ∷ ys) e = ap (λ l. y ∷ l) (front_read n xs ys (omega (arith, e)))
