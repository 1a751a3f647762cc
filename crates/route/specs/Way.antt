-- Ways through a graph by the numbers of their edges. Edge e goes from node `get_or from e 0` to node `get_or to e 0`.
-- Assumes nothing.
use Rattle.std.specs.Prelude.{List, [], ◌∷◌, map, ◌≡◌, ℕ, ◌+◌, ◌<◌, ◌≤◌, length, get_or}
use Rattle.graph.specs.declared.Edge.{Edge}
use Rattle.graph.specs.Limits.{most_nodes, most_edges}
use Rattle.graph.specs.Scan.{FirstFrom}

-- where edges start, where they end, and what they weigh
abbrev pub starts : List Edge → List ℕ
starts edges = map (λ (e : Edge). e.from) edges

abbrev pub ends : List Edge → List ℕ
ends edges = map (λ (e : Edge). e.to) edges

abbrev pub weights : List Edge → List ℕ
weights edges = map (λ (e : Edge). e.weight) edges

-- edges within the limits
pub record Net (from to : List ℕ) : Type 0 where
  pub few : length from ≤ most_edges
  pub both : length to ≡ length from
  pub tail : (e : ℕ) → e < length from → get_or from e 0 < most_nodes
  pub head : (e : ℕ) → e < length from → get_or to e 0 < most_nodes

-- of the edges from lo on, each at the node that `to` has for it: an entry for each node has the first edge there, and then one for each edge the next at its node
pub record EdgeLists (to entries : List ℕ) (lo : ℕ) : Type 0 where
  pub first : (v : ℕ) → v < most_nodes → FirstFrom (λ e. get_or to e 0 ≡ v) lo (length to) (get_or entries v 0)
  pub next : (e : ℕ) → lo ≤ e → e < length to → FirstFrom (λ x. get_or to x 0 ≡ get_or to e 0) (e + 1) (length to) (get_or entries (most_nodes + e) 0)

-- the edges es lead from a to b, one after the other, and each passes Ok
abbrev pub Way : (from to : List ℕ) → (ℕ → Type 0) → ℕ → List ℕ → ℕ → Type 0
Way from to Ok a [] b = a ≡ b
Way from to Ok a (e ∷ es) b = (e < length from) × (get_or from e 0 ≡ a) × Ok e × Way from to Ok (get_or to e 0) es b

-- something is left of edge e
abbrev pub Remains : List ℕ → ℕ → Type 0
Remains left e = 1 ≤ get_or left e 0

-- nothing is left of the edges that end at b
abbrev pub Sealed : List ℕ → List ℕ → ℕ → Type 0
Sealed to left b = (e : ℕ) → e < length to → get_or to e 0 ≡ b → Remains left e → ⊥

-- no edge, and there is no way; or edges of which something is left
pub record Found (from to left : List ℕ) (a b : ℕ) (r : List ℕ) : Type 0 where
  pub short : length r ≤ most_nodes
  pub none : length r ≡ 0 → (es : List ℕ) → Way from to (Remains left) a es b → ⊥
  pub edge : (k : ℕ) → k < length r → (get_or r k 0 < length from) × Remains left (get_or r k 0)
