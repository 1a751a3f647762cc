-- A graph: labels of nodes, and edges; both numbered from 0. And the orders asked of it.
-- Assumes nothing.
use Rattle.std.specs.Prelude.{List, [], ◌≢◌, ◌≡◌, ℕ, ◌<◌, ◌≤◌, length, get_or}
use Rattle.graph.specs.declared.Edge.{Edge}
use Rattle.graph.specs.declared.Label.{Label}
use Rattle.graph.specs.declared.Label.TheVariants.{Fence}
use Rattle.graph.specs.declared.Order.{Order}

-- "Nodes, edges and orders are numbered from 0 in file order."
pub record Graph : Type 0 where
  pub nodes : List Label
  pub edges : List Edge

-- "Least: none of each."
abbrev pub no_graph : Graph
no_graph = record { nodes = []; edges = [] }

-- "a node carries what it does": its label. Past the nodes it reads as a fence, so that a fence put in at the end changes no label
abbrev pub label : Graph → ℕ → Label
label g x = get_or g.nodes x Fence

-- beside "edges .. are numbered from 0": what is read past the last
abbrev pub no_edge : Edge
no_edge = record { from = 0; to = 0; weight = 0 }

-- "edges .. are numbered from 0 in file order": edge i
abbrev pub edge : Graph → ℕ → Edge
edge g i = get_or g.edges i no_edge

-- "Edge weight is 1 to 65,535 .. the same pair (from, to) twice isn't": ends are nodes, no weight is 0, no pair stands twice
pub record Sound (g : Graph) : Type 0 where
  pub ends : (i : ℕ) → i < length g.edges → ((edge g i).from < length g.nodes) × ((edge g i).to < length g.nodes) × (1 ≤ (edge g i).weight)
  pub pairs : (i j : ℕ) → i < length g.edges → j < length g.edges → (edge g i).from ≡ (edge g j).from → (edge g i).to ≡ (edge g j).to → i ≡ j

-- beside "orders are numbered from 0": what is read past the last
abbrev pub no_order : Order
no_order = record { first = 0; second = 0 }

-- "orders are numbered from 0 in file order": order i
abbrev pub order : List Order → ℕ → Order
order orders i = get_or orders i no_order

-- "An order's two nodes differ, and no order stands twice." They are among the n nodes
pub record Orderly (n : ℕ) (orders : List Order) : Type 0 where
  pub ends : (i : ℕ) → i < length orders → ((order orders i).first < n) × ((order orders i).second < n) × ((order orders i).first ≢ (order orders i).second)
  pub once : (i j : ℕ) → i < length orders → j < length orders → (order orders i).first ≡ (order orders j).first
      → (order orders i).second ≡ (order orders j).second → i ≡ j
