-- Cuts with their weight, and what the values of the code say of them.
-- Assumes nothing.
use Rattle.std.specs.Prelude.{Bool, List, [], ◌∷◌, ◌≡◌, ℕ, zero, suc, ◌<◌}
use Rattle.flags.specs.Flag.{flag}
use Rattle.sets.specs.Whole.{whole}
use Rattle.graph.specs.Limits.{most_edges}
use Rattle.lightest.specs.declared.Cut as Value
use Rattle.lightest.specs.Sets.{weigh, Edges}

-- a set of edges, a flag for each number, and its weight
pub record Cut : Type 0 where
  pub chosen : List Bool
  pub weight : ℕ

-- the flags k, k + 1, .. of a number, n of them
unfoldable pub flags_from : ℕ → ℕ → ℕ → List Bool
flags_from k zero w = []
flags_from k (suc n) w = flag w k ∷ flags_from (suc k) n w

-- the edges in words, a flag for each number
abbrev pub edges_of : List ℕ → List Bool
edges_of words = flags_from 0 most_edges (whole words)

-- the cut of the edges in words, with a weight beside them
abbrev pub cut_at : List ℕ → ℕ → Cut
cut_at words w = record { chosen = edges_of words; weight = w }

-- the same with what they weigh
abbrev pub cut_by : List ℕ → List ℕ → Cut
cut_by ws words = cut_at words (weigh ws (edges_of words))

-- the cut that a value holds
abbrev pub cut_of : Value.Cut → Cut
cut_of c = cut_at c.chosen c.weight

-- "exact because weights are below 2^24": 2^26 with 1,024 edges, which weigh at most 67,107,840
abbrev pub most_weight : ℕ
most_weight = 67108864

-- a cut with its weight
pub record Made (ws : List ℕ) (c : Cut) : Type 0 where
  pub edges : Edges ws c.chosen
  pub sum : weigh ws c.chosen ≡ c.weight
  pub small : c.weight < most_weight
