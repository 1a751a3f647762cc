-- A route by its nodes, and the edges that it goes by.
-- Assumes nothing.
use Rattle.std.specs.Prelude.{true, List, ◌↔◌, ◌≡◌, ℕ, ◌+◌, ◌<◌, get_or}
use Rattle.route.specs.Way.{Remains}
use Rattle.walked.specs.Unordered.{Goes, Leads}
use Rattle.words.specs.Words.{listed}

-- the row of each node has the nodes that an edge leads to of which something is left
abbrev pub Leading : (from to left succ : List ℕ) → Type 0
Leading from to left succ = (p q : ℕ) → (listed succ p q ≡ true) ↔ Leads from to (Remains left) p q

-- n steps, each by an edge of which something is left
abbrev pub Stepped : (from to left nodes : List ℕ) → ℕ → Type 0
Stepped from to left nodes n = (k : ℕ) → k < n → Leads from to (Remains left) (get_or nodes k 0) (get_or nodes (k + 1) 0)

-- the first n edges are those of the first n steps
abbrev pub Named : (from to left nodes edges : List ℕ) → ℕ → Type 0
Named from to left nodes edges n = (k : ℕ) → k < n → Goes from to (Remains left) (get_or edges k 0) (get_or nodes k 0) (get_or nodes (k + 1) 0)
