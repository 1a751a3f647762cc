-- What the search for a route has found, node by node: how each goes on to the goal.
-- Assumes nothing.
use Rattle.std.specs.Prelude.{List, [], ◌∷◌, ◌⊎◌, ◌≡◌, ℕ, ◌+◌, ◌<◌, length, get_or}
use Rattle.graph.specs.Limits.{most_nodes}
use Rattle.route.specs.declared.Onward.{Onward}
use Rattle.route.specs.declared.Onward.TheVariants.{Unreached, Here, By}
use Rattle.route.specs.Way.{Remains}

-- 1 for a node that is not reached
abbrev pub miss : Onward → ℕ
miss Unreached = 1
miss Here = 0
miss (By _) = 0

-- how many of these are not reached
abbrev pub unseen : List Onward → ℕ
unseen [] = 0
unseen (x ∷ l) = miss x + unseen l

-- how node v goes on
abbrev pub onward : List Onward → ℕ → Onward
onward on v = get_or on v Unreached

abbrev pub Reached : List Onward → ℕ → Type 0
Reached on v = miss (onward on v) ≡ 0

-- the nodes reached are those of the queue: each is the goal, or goes on by an edge of which something is left and which ends at one before it
pub record Homeward (from to left : List ℕ) (goal : ℕ) (on : List Onward) (queue : List ℕ) : Type 0 where
  pub known : (j : ℕ) → j < length queue → (get_or queue j 0 < most_nodes) × Reached on (get_or queue j 0)
  pub queued : (v : ℕ) → Reached on v → (j : ℕ) × (j < length queue) × (get_or queue j 0 ≡ v)
  pub home : (v : ℕ) → onward on v ≡ Here → v ≡ goal
  pub back : (k e : ℕ) → k < length queue → onward on (get_or queue k 0) ≡ By e
      → (e < length from) × Remains left e × ((j : ℕ) × (j < k) × (get_or queue j 0 ≡ get_or to e 0))

-- an edge to one of the first i nodes of the queue, or one of the first e edges to node i, starts at a node that is reached
pub record Spread (from to left : List ℕ) (goal : ℕ) (on : List Onward) (queue : List ℕ) (i e : ℕ) : Type 0 where
  pub long : length on ≡ most_nodes
  pub all : length queue + unseen on ≡ most_nodes
  pub led : Homeward from to left goal on queue
  pub aim : Reached on goal
  pub done : (j x : ℕ) → x < length from → Remains left x → get_or to x 0 ≡ get_or queue j 0 → (j < i) ⊎ ((j ≡ i) × (x < e)) → Reached on (get_or from x 0)
