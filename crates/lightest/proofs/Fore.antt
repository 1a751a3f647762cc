-- Which of two sets of one weight comes first: the one that has the first edge in which the two differ.
-- Assumes nothing.
use mathlib.Core.Bool.{Bool, true, false, true≢false, false≢true}
use mathlib.Core.List.{List, [], ◌∷◌}
use mathlib.Core.Logic.{inl, inr}
use mathlib.Core.Path.{◌≡◌, refl, ap}
use Prim.Native.Nat.{ℕ, zero, suc, ◌+◌, ◌<◌, ◌≤◌}
use native.Mathlib.Omega.{arith}
use lib.ListN.{get_or}
use borrow.Author.Count.{below_more}
use Rattle.lightest.specs.Sets.{Has}
use Rattle.graph.specs.Cut.{First, total}
use Rattle.graph.specs.Value.{rising}

-- below i the two have the same edges
abbrev pub Agree : List Bool → List Bool → ℕ → Type 0
Agree a b i = (k : ℕ) → k < i → get_or a k false ≡ get_or b k false

pub agree-more : (a b : List Bool) (e : ℕ) → Agree a b e → get_or a e false ≡ get_or b e false → Agree a b (e + 1)
agree-more a b e f h = below_more (λ j. get_or a j false ≡ get_or b j false) e f h

module _ (w : ℕ → ℕ) where
  sooner : (n m : ℕ) (xs : List ℕ) (b : List Bool) → n < m → 1 ≤ total w (rising m b) → First (n ∷ xs) (rising m b)
  sooner n m xs [] h l = absurd (omega arith)
  sooner n m xs (true ∷ b) h l = inl h
  sooner n m xs (false ∷ b) h l = sooner n (suc m) xs b (omega arith) l

  -- the first flag is that of edge n; they differ first at flag j, that of edge i
  pub fore_first : (n : ℕ) (a b : List Bool) (j i : ℕ) → i ≡ n + j → 1 ≤ w i → total w (rising n a) ≡ total w (rising n b) → Agree a b j → Has a j
      → get_or b j false ≡ false → First (rising n a) (rising n b)
  fore_first n [] b j i q p e f h o = absurd (false≢true h)
  fore_first n (false ∷ a) b zero i q p e f h o = absurd (false≢true h)
  fore_first n (true ∷ a) [] zero i q p e f h o = let z : i ≡ n = omega arith in absurd (omega (arith, ap w z))
  fore_first n (true ∷ a) (true ∷ b) zero i q p e f h o = absurd (true≢false o)
  fore_first n (true ∷ a) (false ∷ b) zero i q p e f h o =
      let z : i ≡ n = omega arith in
      sooner n (suc n) (rising (suc n) a) b (omega arith) (omega (arith, ap w z))
  fore_first n (true ∷ a) [] (suc j) i q p e f h o = absurd (true≢false (f 0 (omega arith)))
  fore_first n (false ∷ a) [] (suc j) i q p e f h o = fore_first (suc n) a [] j i (omega arith) p e (λ k l. f (suc k) (omega arith)) h refl
  fore_first n (true ∷ a) (true ∷ b) (suc j) i q p e f h o =
      inr (refl, fore_first (suc n) a b j i (omega arith) p (omega arith) (λ k l. f (suc k) (omega arith)) h o)
  fore_first n (true ∷ a) (false ∷ b) (suc j) i q p e f h o = absurd (true≢false (f 0 (omega arith)))
  fore_first n (false ∷ a) (true ∷ b) (suc j) i q p e f h o = absurd (false≢true (f 0 (omega arith)))
  fore_first n (false ∷ a) (false ∷ b) (suc j) i q p e f h o = fore_first (suc n) a b j i (omega arith) p e (λ k l. f (suc k) (omega arith)) h o
