-- How the lists of edges go on.
-- Assumes nothing.
use Rattle.std.specs.Prelude.{List, ℕ, ◌+◌, ◌<◌, get_or}
use Rattle.graph.specs.Limits.{most_nodes}

-- after each of the first n edges comes a later one
abbrev pub Rising : List ℕ → ℕ → Type 0
Rising entries n = (e : ℕ) → e < n → e < get_or entries (most_nodes + e) 0
