-- Going along the edges that start at a node, as they are linked.
-- Assumes nothing.
use mathlib.Core.List.{List}
use mathlib.Core.Logic.{◌⊎◌, inl, inr, ⊎_elim}
use mathlib.Core.Path.{◌≡◌, refl}
use Prim.Native.Nat.{ℕ, ◌+◌, ◌<◌, ◌≤◌}
use native.Mathlib.Omega.{arith}
use lib.ListN.{length, get_or}
use Rattle.graph.specs.Limits.{most_nodes}
use Rattle.graph.proofs.Splits.{tri}
use Rattle.route.specs.Way.{EdgeLists}
use Rattle.route.proofs.Linking.{first_into, next_into}

-- edge e, if it is one, starts at u
abbrev pub At : List ℕ → ℕ → ℕ → Type 0
At from u e = e < length from → get_or from e 0 ≡ u

module _ (from links : List ℕ) (ln : EdgeLists from links 0) where
  pub at-start : (u e : ℕ) → u < most_nodes → e ≡ get_or links u 0 → At from u e
  at-start u e h s = (first_into from links ln u e 0 h s).here

  pub at_high : (u e : ℕ) → u < most_nodes → e ≡ get_or links u 0 → e ≤ length from
  at_high u e h s = (first_into from links ln u e 0 h s).high

  -- none before the first
  pub none_before : (u e : ℕ) → u < most_nodes → e ≡ get_or links u 0 → (x : ℕ) → x < e → get_or from x 0 ≡ u → ⊥
  none_before u e h s x l = (first_into from links ln u e 0 h s).none x (omega arith) l

  pub at_next : (u e e' : ℕ) → At from u e → e < length from → e' ≡ get_or links (most_nodes + e) 0 → At from u e'
  at_next u e e' k l s = (next_into from links ln u e e' l (k l) s).here

  -- none but e between
  pub none_between : (u e e' : ℕ) → At from u e → e < length from → e' ≡ get_or links (most_nodes + e) 0 → (x : ℕ) → x < e' → get_or from x 0 ≡ u
      → (x < e) ⊎ (x ≡ e)
  none_between u e e' k l s x h q =
      ⊎_elim inl (⊎_elim inr (λ b. absurd ((next_into from links ln u e e' l (k l) s).none x (omega (arith, b)) h q))) (tri x e)

  pub at_up : (e e' : ℕ) → e < length from → e' ≡ get_or links (most_nodes + e) 0 → (e < e') × (e' ≤ length from)
  at_up e e' l s = let f = next_into from links ln (get_or from e 0) e e' l refl s in (omega (arith, f.low), f.high)
