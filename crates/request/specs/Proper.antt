-- A request that document 01 allows, and a file that holds one.
-- Assumes nothing.
use mathlib.Core.List.{List, Memᴰ}
use Rattle.std.specs.Prelude.{◌⊎◌, ◌≡◌, ℕ, ◌<◌, ◌≤◌, length}
use Rattle.graph.specs.declared.Label.{Label}
use Rattle.graph.specs.declared.Label.TheVariants.{Store, Load, Fence}
use Rattle.graph.specs.declared.Rule.{Rule}
use Rattle.graph.specs.declared.Side.{Side}
use Rattle.graph.specs.declared.Side.TheVariants.{Any, Is}
use Rattle.graph.specs.Graph.{edge, Sound, Orderly}
use Rattle.graph.specs.Limits.{most_nodes, most_edges, most_rules, most_orders}
use Rattle.graph.specs.Written.{FenceRules}
use Rattle.request.specs.declared.Counts.{Counts}
use Rattle.request.specs.File.{Request, bytes}

-- "Stores and loads have address 0 to 255"
abbrev pub Addressed : Label → Type 0
Addressed (Store a) = a < 256
Addressed (Load a) = a < 256
Addressed Fence = Unit {0}

-- "A side of kind 0 or 1 has a variable: the first one used in a rule, reading left to right, is 1"
abbrev pub FormedLeft : Side → Type 0
FormedLeft (Is (Store v)) = v ≡ 1
FormedLeft (Is (Load v)) = v ≡ 1
FormedLeft (Is Fence) = Unit {0}
FormedLeft Any = Unit {0}

-- "A side of kind 0 or 1 has a variable"
abbrev pub HasVariable : Side → Type 0
HasVariable (Is (Store v)) = Unit {0}
HasVariable (Is (Load v)) = Unit {0}
HasVariable (Is Fence) = ⊥
HasVariable Any = ⊥

-- "a right side has 2 only if the left side has 1"
abbrev pub FormedRight : Side → Side → Type 0
FormedRight left (Is (Store v)) = (v ≡ 1) ⊎ ((v ≡ 2) × HasVariable left)
FormedRight left (Is (Load v)) = (v ≡ 1) ⊎ ((v ≡ 2) × HasVariable left)
FormedRight left (Is Fence) = Unit {0}
FormedRight left Any = Unit {0}

-- both sides of a rule are as these sentences say
abbrev pub Formed : Rule → Type 0
Formed r = FormedLeft r.left × FormedRight r.left r.right

-- a request that no refusal from 2 to 7 applies to
pub record Proper (r : Request) : Type 0 where
  -- "Most: 512 nodes, 1,024 edges, 32 rules, 32 orders."
  pub few_nodes : length r.graph.nodes ≤ most_nodes
  pub few_edges : length r.graph.edges ≤ most_edges
  pub few_rules : length r.rules ≤ most_rules
  pub few_orders : length r.orders ≤ most_orders
  -- "Stores and loads have address 0 to 255"
  pub addressed : (x : Label) → Memᴰ x r.graph.nodes → Addressed x
  -- "Edge weight is 1 to 65,535. An edge from a node to itself is allowed; the same pair (from, to) twice isn't."
  pub sound : Sound r.graph
  pub light : (i : ℕ) → i < length r.graph.edges → (edge r.graph i).weight < 65536
  -- "Repeated rules are harmless."
  pub formed : (x : Rule) → Memᴰ x r.rules → Formed x
  -- "An order's two nodes differ, and no order stands twice."
  pub orderly : Orderly (length r.graph.nodes) r.orders
  -- "wildcard to fence, or fence to wildcard, isn't among the rules" is refusal 7
  pub fences : FenceRules r.rules

-- how many records of each mark a request has
abbrev pub counts_of : Request → Counts
counts_of r = record { nodes = length r.graph.nodes; edges = length r.graph.edges; rules = length r.rules; orders = length r.orders }

-- a file that is the bytes of a proper request, with the counts of its records
pub record Holds (s : List ℕ) (cs : Counts) (r : Request) : Type 0 where
  pub is_bytes : s ≡ bytes r
  pub proper : Proper r
  pub counts : cs ≡ counts_of r

-- the file is the bytes of the request, which is one that document 01 allows
pub record Reads (s : List ℕ) (q : Request) : Type 0 where
  pub is_bytes : s ≡ bytes q
  pub proper : Proper q
