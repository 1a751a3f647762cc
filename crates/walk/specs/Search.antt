-- What the walk looks for at a node: the first list that C names; and what becomes of that which it is lent.
-- Assumes nothing.
use Rattle.std.specs.Prelude.{Bool, true, false, List, ◌++◌, ◌≡◌, ℕ, ◌≤◌, length, take}
use Rattle.std.specs.Int.Count.{ones}
use Rattle.graph.specs.Cut.{First}
use Rattle.graph.specs.Limits.{most_nodes}

-- the first of the lists that C names, by node numbers
pub record Earliest (C : List ℕ → Type 0) (l : List ℕ) : Type 0 where
  pub one : C l
  pub least : (s : List ℕ) → C s → First l s

-- what was lent comes back: the route so far, which has the nodes in `visited`, and where no way was found the sets that grow along it
pub record GivenBack (way : Bool) (visited visited' after after' : ℕ) (nodes nodes' : List ℕ) : Type 0 where
  pub on_route : way ≡ false → visited' ≡ visited
  pub marked : way ≡ false → after' ≡ after
  pub route : take (ones visited) nodes' ≡ take (ones visited) nodes
  pub long : length nodes' ≡ length nodes

-- whether there is a list that C names at v: where there is, the first one stands after the route so far; and what was lent comes back
pub record Decides (C : ℕ → ℕ → ℕ → List ℕ → Type 0) (v : ℕ) (way : Bool) (visited visited' after after' : ℕ) (nodes nodes' : List ℕ) : Type 0 where
  pub none : way ≡ false → (l : List ℕ) → C visited after v l → ⊥
  pub found : way ≡ true → (l : List ℕ) × (ones visited' ≤ most_nodes) × (take (ones visited') nodes' ≡ take (ones visited) nodes ++ l)
      × Earliest (C visited after v) l
  pub back : GivenBack way visited visited' after after' nodes nodes'
