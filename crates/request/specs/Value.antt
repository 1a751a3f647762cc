-- The request in a graph by value.
-- Assumes nothing.
use Rattle.graph.specs.Value.{graph_of, orders_of, rules_of}
use Rattle.request.specs.File.{Request}
use Rattle.request.specs.Proper.{Proper}
use Rattle.graph.specs.declared.Graph as Value

-- the request that a graph by value holds
abbrev pub request_in : Value.Graph → Request
request_in g = record { graph = graph_of g; rules = rules_of g; orders = orders_of g }

-- it holds a proper request
pub record Ready (g : Value.Graph) : Type 0 where
  pub proper : Proper (request_in g)
