-- What a change of nodes and edges leaves as it was.
-- Assumes nothing.
use Rattle.std.specs.Prelude.{◌≡◌}
use Rattle.graph.specs.declared.Graph as Value

-- "Rules and orders are unchanged."
pub record Kept (g h : Value.Graph) : Type 0 where
  pub rules : h.rules ≡ g.rules
  pub orders : h.orders ≡ g.orders
