-- What the tests for a way on say of their sets and pairs.
-- Assumes nothing.
use Rattle.std.specs.Prelude.{true, false, List, ◌↔◌, ◌≡◌, ℕ, ◌<◌, get_or}
use Rattle.flags.specs.Flag.{flag, either, both, less}
use Rattle.sets.specs.Whole.{Inside}
use Rattle.words.specs.Words.{listed}

-- each node of `into` is one that a rule fits with the goal
abbrev pub Into : List ℕ → ℕ → ℕ → Type 0
Into fits goal into = (p : ℕ) → flag into p ≡ true → listed fits p goal ≡ true

-- `into` has exactly those of the first n nodes that a rule fits with the goal
abbrev pub IntoOf : List ℕ → ℕ → ℕ → ℕ → Type 0
IntoOf fits goal n into = (p : ℕ) → (flag into p ≡ true) ↔ ((p < n) × (listed fits p goal ≡ true))

-- how many pairs of a node and a set are kept
abbrev pub most_pairs : ℕ
most_pairs = 512

-- one of the first n pairs has the node y and a set inside w
abbrev pub Dominated : List ℕ → List ℕ → ℕ → ℕ → ℕ → Type 0
Dominated nodes words n y w = (j : ℕ) × (j < n) × (get_or nodes j 0 ≡ y) × Inside (get_or words j 0) w

-- the nodes that a way may go on to from x, where m is ordered after the first on arrival: none on the route, and none that would then order the goal
abbrev pub open_steps : List ℕ → ℕ → ℕ → ℕ → ℕ → ℕ
open_steps succ into visited x m = less (get_or succ x 0) (either visited (both m into))

-- `low` is `high` with the rows of the nodes in `next` brought down to m. Only a node in `met` had a row before; `fell` has those that are new or changed
pub record Lowered (high low : List ℕ) (met next m fell : ℕ) : Type 0 where
  pub to : (y : ℕ) → flag next y ≡ true → (flag (either met fell) y ≡ true) × Inside (get_or low y 0) m
  pub down : (y : ℕ) → flag met y ≡ true → Inside (get_or low y 0) (get_or high y 0)
  pub same : (y : ℕ) → flag fell y ≡ false → get_or low y 0 ≡ get_or high y 0
