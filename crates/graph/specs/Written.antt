-- What is written: a fence on each edge of the cut.
-- Assumes nothing.
use mathlib.Core.List.{List, [], ◌∷◌, ◌++◌, Memᴰ}
use Rattle.std.specs.Prelude.{ℕ, length, set}
use Rattle.graph.specs.declared.Label.TheVariants.{Fence}
use Rattle.graph.specs.declared.Rule.{Rule}
use Rattle.graph.specs.declared.Side.TheVariants.{Any, Is}
use Rattle.graph.specs.Graph.{Graph, edge}

-- "Edge (j, k) of weight w becomes (j, v) at its own place, and (v, k) is added at the end of the edges, both of weight w."
abbrev pub fenced : Graph → ℕ → Graph
fenced g i = record {
  nodes = g.nodes ++ (Fence ∷ []);
  edges = set g.edges i (record { from = (edge g i).from; to = length g.nodes; weight = (edge g i).weight })
      ++ (record { from = length g.nodes; to = (edge g i).to; weight = (edge g i).weight } ∷ []);
}

-- "With n nodes and the cut's edges in rising order, the first gets fence node n, the next n+1, and so on."
abbrev pub written : Graph → List ℕ → Graph
written g [] = g
written g (i ∷ c) = written (fenced g i) c

-- "wildcard to fence, or fence to wildcard, isn't among the rules" is refusal 7: here both are
pub record FenceRules (rules : List Rule) : Type 0 where
  pub to_fence : Memᴰ (record { left = Any; right = (Is Fence) }) rules
  pub from_fence : Memᴰ (record { left = (Is Fence); right = Any }) rules
