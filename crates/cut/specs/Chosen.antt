-- What is promised of the cut that the search gives.
-- Assumes nothing.
use Rattle.std.specs.Prelude.{◌≡◌, ℕ, ◌<◌, length}
use Rattle.lightest.specs.declared.Cut.{Cut}
use Rattle.lightest.specs.Made.{edges_of, most_weight}
use Rattle.lightest.specs.Sets.{Has}
use Rattle.graph.specs.Cut.{ChosenCut, weight}
use Rattle.graph.specs.Limits.{most_edges}
use Rattle.graph.specs.Value.{graph_of, rules_of, orders_of, rising}
use Rattle.graph.specs.declared.Graph as Value

-- the chosen cut by its flags, of which none is set past the edges; and its weight
pub record Chosen (g : Value.Graph) (c : Cut) : Type 0 where
  pub best : ChosenCut (graph_of g) (rules_of g) (orders_of g) (rising 0 (edges_of c.chosen))
  pub sum : c.weight ≡ weight (graph_of g) (rising 0 (edges_of c.chosen))
  pub small : c.weight < most_weight
  pub long : length (edges_of c.chosen) ≡ most_edges
  pub below : (e : ℕ) → Has (edges_of c.chosen) e → e < length g.edges.items
