-- The lists that a graph by value holds.
-- Assumes nothing.
use Rattle.std.specs.Prelude.{Bool, false, true, List, [], ◌∷◌, ◌≡◌, ℕ, ◌<◌, suc, get_or, length}
use Rattle.graph.specs.declared.Edge.{Edge}
use Rattle.graph.specs.declared.Label.{Label}
use Rattle.graph.specs.declared.Node.{Node}
use Rattle.graph.specs.declared.Order.{Order}
use Rattle.graph.specs.declared.Rule.{Rule}
use Rattle.graph.specs.Graph.{Graph, no_edge, order}
use Rattle.graph.specs.Held.{Held, Open}
use Rattle.graph.specs.Limits.{most_nodes}
use Rattle.graph.specs.declared.Graph as Value

-- "In the library a node carries what it does, and to which address if any": what each carries
abbrev pub labels : List Node → List Label
labels [] = []
labels (n ∷ ns) = n.label ∷ labels ns

-- its nodes and edges
abbrev pub graph_of : Value.Graph → Graph
graph_of g = record { nodes = labels g.nodes.items; edges = g.edges.items }

-- its rules
abbrev pub rules_of : Value.Graph → List Rule
rules_of g = g.rules.items

-- its orders
abbrev pub orders_of : Value.Graph → List Order
orders_of g = g.orders.items

-- edges start and end at nodes
abbrev pub Ends : List Edge → Type 0
Ends edges = (i : ℕ) → i < length edges → ((get_or edges i no_edge).from < most_nodes) × ((get_or edges i no_edge).to < most_nodes)

-- orders name nodes
abbrev pub Named : List Order → Type 0
Named orders = (i : ℕ) → i < length orders → ((order orders i).first < most_nodes) × ((order orders i).second < most_nodes)

-- flag i tells whether order i is open
pub record Told (g : Value.Graph) (flags : List Bool) : Type 0 where
  pub is_open : (i : ℕ) → i < length (orders_of g) → get_or flags i false ≡ true → Open (graph_of g) (rules_of g) (order (orders_of g) i)
  pub is_held : (i : ℕ) → i < length (orders_of g) → get_or flags i false ≡ false → Held (graph_of g) (rules_of g) (order (orders_of g) i)

-- the rising list of the numbers whose flags are set, the first flag being that of number n
abbrev pub rising : ℕ → List Bool → List ℕ
rising n [] = []
rising n (true ∷ fs) = n ∷ rising (suc n) fs
rising n (false ∷ fs) = rising (suc n) fs
