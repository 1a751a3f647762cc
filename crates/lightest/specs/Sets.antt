-- Sets of edges as flags, one for each edge in number order: their weight, and the least of a family of them.
-- Assumes nothing.
use Rattle.std.specs.Prelude.{Bool, true, false, List, ◌≡◌, ℕ, ◌<◌, ◌≤◌, length, get_or}
use Rattle.graph.specs.Cut.{First, total}
use Rattle.graph.specs.Limits.{most_edges}
use Rattle.graph.specs.Value.{rising}

-- the sum of the weights of its edges
abbrev pub weigh : List ℕ → List Bool → ℕ
weigh ws t = total (λ e. get_or ws e 0) (rising 0 t)

-- edge e is in the set
abbrev pub Has : List Bool → ℕ → Type 0
Has t e = get_or t e false ≡ true

-- a set of edges that have weights
pub record Edges (ws : List ℕ) (t : List Bool) : Type 0 where
  pub long : length t ≡ most_edges
  pub known : (e : ℕ) → Has t e → (e < length ws) × (1 ≤ get_or ws e 0)

-- every edge of s is one of t
abbrev pub PartOf : List Bool → List Bool → Type 0
PartOf s t = (e : ℕ) → Has s e → Has t e

-- of the sets of edges for which P holds: one of least weight, and of those the one whose rising list comes first
pub record Least (ws : List ℕ) (P : List Bool → Type 0) (c : List Bool) : Type 0 where
  pub good : P c
  pub least : (t : List Bool) → Edges ws t → P t → weigh ws c ≤ weigh ws t
  pub first : (t : List Bool) → Edges ws t → P t → weigh ws c ≡ weigh ws t → First (rising 0 c) (rising 0 t)
