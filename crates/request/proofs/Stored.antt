-- A list filled record by record.
-- Assumes nothing.
use mathlib.Core.List.{List, [], ◌∷◌, ◌++◌, map}
use mathlib.Core.Path.{◌≡◌, refl, ap, ◌∙◌}
use Prim.Native.Nat.{ℕ, zero, suc, ◌+◌, ◌*◌}
use native.Mathlib.Nat.{zero-mul, suc-mul}
use native.Mathlib.Omega.{arith}
use Rattle.graph.specs.declared.Label.{Label}
use Rattle.graph.specs.Value.{labels}
use Rattle.request.specs.declared.Mark.TheVariants.{Nd}
use Rattle.request.specs.Decode.{label_of_node, node_in, read_at, table}

module _ {X : Type 0} (dec : List ℕ → ℕ → X) (z : ℕ) (s : List ℕ) where
  pub table_none : (at : ℕ) → table dec z s at 0 ≡ []
  unfolding table
  table_none at = refl

  -- one record more
  pub table_more : (at n : ℕ) → table dec z s at (suc n) ≡ table dec z s at n ++ (dec s (at + n * z) ∷ [])
  unfolding table
  table_more at zero = let q : at ≡ at + 0 * z = omega (arith, zero-mul z) in ap (λ (k : ℕ). dec s k ∷ []) q
  table_more at (suc n) =
      let q : at + z + n * z ≡ at + suc n * z = omega (arith, suc-mul n z) in
      ap (λ (l : List X). dec s at ∷ l) (table_more (at + z) n ∙ ap (λ (k : ℕ). table dec z s (at + z) n ++ (dec s k ∷ [])) q)

-- a table of what is made of records
pub table-map : {X Y : Type 0} (f : X → Y) (dec : List ℕ → ℕ → X) (z : ℕ) (s : List ℕ) (at n : ℕ)
    → table (λ t k. f (dec t k)) z s at n ≡ map f (table dec z s at n)
unfolding table
table-map f dec z s at zero = refl
table-map f dec z s at (suc n) = ap (λ l. f (dec s at) ∷ l) (table-map f dec z s (at + z) n)

pub labels-table : (s : List ℕ) (at n : ℕ) → labels (table node_in 4 s at n) ≡ map label_of_node (table (read_at Nd) 4 s at n)
unfolding table
labels-table s at zero = refl
labels-table s at (suc n) = ap (λ (l : List Label). label_of_node (read_at Nd s at) ∷ l) (labels-table s (at + 4) n)
