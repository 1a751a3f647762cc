-- What a graph within the limits says of the numbers in its edges and orders.
-- Assumes nothing.
use mathlib.Core.List.{List, [], ◌∷◌}
use mathlib.Core.Path.{◌≡◌, refl}
use Prim.Native.Nat.{ℕ, zero, suc, ◌≤◌, ◌<◌}
use native.Mathlib.Nat.{le_of_suc-le-suc, not-suc-le-zero}
use native.Mathlib.Omega.{arith}
use lib.ListN.{length, get_or}
use Rattle.graph.specs.Graph.{Sound, Orderly}
use Rattle.graph.specs.Limits.{most_nodes}
use Rattle.graph.specs.Value.{graph_of, orders_of, Ends, Named}
use Rattle.graph.specs.declared.Graph as Value

module _ {A : Type 0} where
  -- what stands at a place within a list does not go by the default
  pub get_d_any : (l : List A) (i : ℕ) (d e : A) → i < length l → get_or l i d ≡ get_or l i e
  get_d_any [] i d e h = absurd (not-suc-le-zero h)
  get_d_any (x ∷ xs) zero d e h = refl
  get_d_any (x ∷ xs) (suc i) d e h = get_d_any xs i d e (le_of_suc-le-suc h)

module _ (g : Value.Graph) (few : length (graph_of g).nodes ≤ most_nodes) where
  pub all_ends : Sound (graph_of g) → Ends g.edges.items
  all_ends sound i h = let s = sound.ends i h in (omega (arith, s.0, few), omega (arith, s.1, few))

  pub all_named : Orderly (length (graph_of g).nodes) (orders_of g) → Named g.orders.items
  all_named orderly i h = let s = orderly.ends i h in (omega (arith, s.0, few), omega (arith, s.1, few))
