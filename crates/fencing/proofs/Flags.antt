-- The rising list of flags, one flag at a time.
-- Assumes nothing.
use mathlib.Core.Bool.{Bool, cond, false, true}
use mathlib.Core.List.{List, [], ◌∷◌}
use mathlib.Core.Path.{◌∙◌, ◌≡◌, ap, refl}
use Prim.Native.Nat.{◌+◌, ◌<◌, suc, ℕ}
use native.Mathlib.Numerals.{add-one}
use native.Mathlib.Omega.{arith}
use lib.ListN.{drop, get_or, length}
use lib.Seq.{drop-cons}
use Rattle.std.specs.List.{count_by}
use Rattle.std.proofs.lemmas.List.Recursion.{is_count_by}
use Rattle.graph.specs.Value.{rising}

module _ (fs : List Bool) where
  pub rising_yes : (i : ℕ) → i < length fs → get_or fs i false ≡ true → rising i (drop i fs) ≡ i ∷ rising (i + 1) (drop (i + 1) fs)
  rising_yes i h e = rw add-one (ap (rising i) (drop-cons fs i false h ∙ ap (λ (b : Bool). b ∷ drop (suc i) fs) e))

  pub rising_no : (i : ℕ) → i < length fs → get_or fs i false ≡ false → rising i (drop i fs) ≡ rising (i + 1) (drop (i + 1) fs)
  rising_no i h e = rw add-one (ap (rising i) (drop-cons fs i false h ∙ ap (λ (b : Bool). b ∷ drop (suc i) fs) e))

-- how many are set does not go by the number of the first
same_length : (m n : ℕ) (fs : List Bool) → length (rising m fs) ≡ length (rising n fs)
same_length m n [] = refl
same_length m n (true ∷ fs) = ap suc (same_length (suc m) (suc n) fs)
same_length m n (false ∷ fs) = same_length (suc m) (suc n) fs

pub rising_count : (fs : List Bool) → length (rising 0 fs) ≡ count_by (λ f. f) fs
rising_count fs = is_count_by (λ l. length (rising 0 l)) (λ f. f) refl step fs
  where
    step : (f : Bool) (fs : List Bool) → length (rising 0 (f ∷ fs)) ≡ cond f (1 + length (rising 0 fs)) (length (rising 0 fs))
    step true fs = omega (arith, same_length 1 0 fs)
    step false fs = same_length 1 0 fs
