-- What the search is given of a graph by value beside its edges: the open ones of its orders.
-- Assumes nothing.
use Rattle.std.specs.Prelude.{Bool, true, false, List, [], ◌∷◌, ◌≢◌, ℕ, ◌<◌, length}
use Rattle.graph.specs.declared.Order.{Order}
use Rattle.graph.specs.Graph.{order}
use Rattle.graph.specs.Limits.{most_nodes}

-- those of these orders whose flags are set
abbrev pub open_of : List Order → List Bool → List Order
open_of [] flags = []
open_of (o ∷ orders) [] = []
open_of (o ∷ orders) (true ∷ flags) = o ∷ open_of orders flags
open_of (o ∷ orders) (false ∷ flags) = open_of orders flags

-- each is of two different nodes
abbrev pub Differ : List Order → Type 0
Differ orders = (i : ℕ) → i < length orders → ((order orders i).first < most_nodes) × ((order orders i).second < most_nodes)
    × ((order orders i).first ≢ (order orders i).second)
