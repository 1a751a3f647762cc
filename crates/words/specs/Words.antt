-- Which tables are a graph's: for each node a row with the nodes that a step leads to, and one with those that some rule fits with it.
-- Assumes nothing.
use Rattle.std.specs.Prelude.{Bool, true, ◌&&◌, List, ◌↔◌, ◌≡◌, ℕ, ◌<◌, ltb, length, get_or}
use Rattle.flags.specs.Flag.{flag}
use Rattle.graph.specs.declared.Edge.{Edge}
use Rattle.graph.specs.declared.Label.{Label}
use Rattle.graph.specs.declared.Label.TheVariants.{Fence}
use Rattle.graph.specs.declared.Node.{Node}
use Rattle.graph.specs.declared.Rule.{Rule}
use Rattle.graph.specs.Fit.{Ruled}
use Rattle.graph.specs.Tests.{ruledb}
use Rattle.graph.specs.Graph.{Graph, Sound, label, no_edge}
use Rattle.graph.specs.Held.{Step}
use Rattle.graph.specs.Value.{rules_of}
use Rattle.graph.specs.declared.Graph as Value

-- q is in the row of p
abbrev pub listed : List ℕ → ℕ → ℕ → Bool
listed words p q = flag (get_or words p 0) q

-- the table of the rules: for each node of g its row has those that some rule fits with it
abbrev pub Ruling : Graph → List Rule → List ℕ → Type 0
Ruling g rules fits = (p q : ℕ) → p < length g.nodes → q < length g.nodes → (listed fits p q ≡ true) ↔ Ruled rules (label g p) (label g q)

-- the tables of g without the edges in c, and of the rules
pub record WordsOf (g : Graph) (rules : List Rule) (c succ fits : List ℕ) : Type 0 where
  pub sound : Sound g
  pub steps : (p q : ℕ) → (listed succ p q ≡ true) ↔ Step g c p q
  pub ruled : Ruling g rules fits

-- ---- what they are filled from

-- one of the first i edges leads from p to q
abbrev pub Led : List Edge → ℕ → ℕ → ℕ → Type 0
Led edges i p q = (j : ℕ) × (j < i) × (j < length edges) × ((get_or edges j no_edge).from ≡ p) × ((get_or edges j no_edge).to ≡ q)

-- the label of node p, past the nodes a fence
abbrev pub label_at : List Node → ℕ → Label
label_at ns p = (get_or ns p (record { label = Fence })).label

-- p and q are nodes, and some rule fits their labels
abbrev pub fit_in : List Node → List Rule → ℕ → ℕ → Bool
fit_in ns rs p q = ltb p (length ns) && (ltb q (length ns) && ruledb rs (label_at ns p) (label_at ns q))

-- the table of the rules is filled from a graph by value
abbrev pub Fitted : Value.Graph → List ℕ → Type 0
Fitted g fits = (p q : ℕ) → listed fits p q ≡ fit_in g.nodes.items (rules_of g) p q
