-- Two records that begin with the same pair of numbers, or not.
-- Assumes nothing.
use mathlib.Core.Bool.{true, false}
use mathlib.Core.List.{List}
use mathlib.Core.Path.{◌≡◌, ◌∙◌, sym}
use Prim.Native.Nat.{ℕ, ◌+◌}
use native.Mathlib.Decide.{ℕ_discrete}
use native.Mathlib.Omega.{arith}
use lib.Dec.{eqb}
use borrow.Author.Tests.{eq-eqb, ne_eqb}
use Rattle.request.specs.Tables.{PairAt, same_pair, two_at}

module _ {s : List ℕ} {p q x y : ℕ} (a : PairAt s p x) (b : PairAt s q y) where
  same : x ≡ y → same_pair s p q ≡ true
  unfolding same_pair
  same e = simp (eq-eqb (two_at s (p + 2)) (two_at s (q + 2)) (omega arith), eq-eqb (two_at s (p + 4)) (two_at s (q + 4)) (omega arith))

  other : (x ≡ y → ⊥) → same_pair s p q ≡ false
  unfolding same_pair
  other n = go (ℕ_discrete (two_at s (p + 2)) (two_at s (q + 2)))
    where
      go : Dec (two_at s (p + 2) ≡ two_at s (q + 2)) → same_pair s p q ≡ false
      go (yes e) = simp (eq-eqb _ _ e, ne_eqb (two_at s (p + 4)) (two_at s (q + 4)) (λ f. n (omega arith)))
      go (no e) = simp (ne_eqb _ _ e)

-- what comparing the two tells
pub pairs_told : (s : List ℕ) (p q : ℕ) {x y : ℕ} → PairAt s p x → PairAt s q y → eqb x y ≡ same_pair s p q
pairs_told s p q {x} {y} a b = told (ℕ_discrete x y)
  where
    told : Dec (x ≡ y) → eqb x y ≡ same_pair s p q
    told (yes e) = eq-eqb x y e ∙ sym (same a b e)
    told (no n) = ne_eqb x y n ∙ sym (other a b n)
