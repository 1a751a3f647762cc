-- How the pairs of a node and a set that are kept hang together: those of one node, and each with the one that it was come to from.
-- Assumes nothing.
use Rattle.std.specs.Prelude.{Option, Some, None, List, [], ◌∷◌, ◌++◌, map, ◌≡◌, ℕ, ◌+◌, ◌<◌, ◌≤◌, length, get_or}
use Rattle.graph.specs.Limits.{most_nodes}
use Rattle.unordered.specs.declared.pairs.By.{By}
use Rattle.unordered.specs.declared.pairs.Pair.{Pair}

-- what is read past the last
abbrev pub no_pair : Pair
no_pair = record { node = 0; by = None; prior = None }

abbrev pub nodes : List Pair → List ℕ
nodes pairs = map (λ (p : Pair). p.node) pairs

abbrev pub bys : List Pair → List (Option By)
bys pairs = map (λ (p : Pair). p.by) pairs

abbrev pub priors : List Pair → List (Option ℕ)
priors pairs = map (λ (p : Pair). p.prior) pairs

-- how many pairs there are up to this one
abbrev pub up_to : Option ℕ → ℕ
up_to None = 0
up_to (Some j) = j + 1

-- of the first n pairs the last that has the node y; none where none has it
pub record LastOf (nodes : List ℕ) (y n : ℕ) (last : Option ℕ) : Type 0 where
  pub high : up_to last ≤ n
  pub here : (j : ℕ) → last ≡ Some j → get_or nodes j 0 ≡ y
  pub all : (j : ℕ) → j < n → get_or nodes j 0 ≡ y → j < up_to last

-- each pair has the last one before it that has its node, and `last` has the last pair of each node
pub record Chained (pairs : List Pair) (last : List (Option ℕ)) : Type 0 where
  pub before : (j : ℕ) → j < length pairs → LastOf (nodes pairs) (get_or (nodes pairs) j 0) j (get_or (priors pairs) j None)
  pub tops : (y : ℕ) → y < most_nodes → LastOf (nodes pairs) y (length pairs) (get_or last y None)

-- pair j was come to by the edges es; the first pair by none
pub data Trail (pairs : List Pair) : ℕ → List ℕ → Type 0 where
  start : {j : ℕ} → get_or (bys pairs) j None ≡ None → Trail pairs j []
  on : {j : ℕ} {es : List ℕ} {by : By} → get_or (bys pairs) j None ≡ Some by → by.parent < j → Trail pairs by.parent es → Trail pairs j (es ++ by.via ∷ [])
