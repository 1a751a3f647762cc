-- Routes that don't order their ends, and the numbers of their edges. Edge e goes from node `get_or from e 0` to node `get_or to e 0`.
-- Assumes nothing.
use Rattle.std.specs.Prelude.{Bool, false, List, ◌≡◌, ℕ, ◌<◌, ◌≤◌, length, get_or}
use Rattle.graph.specs.Ask.{along}
use Rattle.graph.specs.Held.{Follows, NoneTwice, Ordered}
use Rattle.graph.specs.Limits.{most_nodes}
use Rattle.route.specs.Way.{Remains}
use Rattle.walk.specs.Asked.{Lists}

-- edge e is not in the set t
abbrev pub Out : List Bool → ℕ → Type 0
Out t e = get_or t e false ≡ false

-- edge e leads from p to q, and passes Ok
abbrev pub Goes : (from to : List ℕ) → (ℕ → Type 0) → ℕ → ℕ → ℕ → Type 0
Goes from to Ok e p q = (e < length from) × Ok e × (get_or from e 0 ≡ p) × (get_or to e 0 ≡ q)

-- some edge that passes Ok leads from p to q
abbrev pub Leads : (from to : List ℕ) → (ℕ → Type 0) → ℕ → ℕ → Type 0
Leads from to Ok p q = (e : ℕ) × Goes from to Ok e p q

-- a route from a to b, each edge of which passes Ok, and which does not order its ends: for each node `fits` has those that some rule fits with it
pub record Unordered (from to fits : List ℕ) (Ok : ℕ → Type 0) (a : ℕ) (between : List ℕ) (b : ℕ) : Type 0 where
  pub follows : Follows (Leads from to Ok) a between b
  pub once : NoneTwice (along a between b)
  pub unordered : Ordered (Lists fits) a between b → ⊥

-- without the edges of t every route from a to b orders its ends
abbrev pub Parts : List ℕ → List ℕ → List ℕ → ℕ → ℕ → List Bool → Type 0
Parts from to fits a b t = (between : List ℕ) → Unordered from to fits (Out t) a between b → ⊥

-- no edge, and of the edges that are left there is no unordered route; or the edges of one
pub record FoundUnordered (from to fits left : List ℕ) (a b : ℕ) (r : List ℕ) : Type 0 where
  pub short : length r ≤ most_nodes
  pub none : length r ≡ 0 → (between : List ℕ) → Unordered from to fits (Remains left) a between b → ⊥
  pub edge : (k : ℕ) → k < length r → (get_or r k 0 < length from) × Remains left (get_or r k 0)
  pub way : 0 < length r → (t : List Bool) → ((k : ℕ) → k < length r → Out t (get_or r k 0))
      → (between : List ℕ) × Unordered from to fits (Out t) a between b
