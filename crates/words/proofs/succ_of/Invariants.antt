use Rattle.std.proofs.Common.{◌≡◌, ◌<◌, ℕ, List, get_or}
use Rattle.graph.specs.declared.Edge.{Edge}
use Rattle.graph.specs.Graph.{no_edge}
use mathlib.Core.Path.{◌≡◌}
use lib.ListN.{length}
use Rattle.graph.specs.Limits.{most_nodes}
use Rattle.sets.specs.Whole.{rows}
use Rattle.words.proofs.Fill.{LedBy}
use Rattle.words.proofs.succ_of.Given as goal

-- edge e leads from p to q
abbrev pub Leads : List Edge → ℕ → ℕ → ℕ → Type 0
Leads edges e p q = (e < length edges) × ((get_or edges e no_edge).from ≡ p) × ((get_or edges e no_edge).to ≡ q)

abbrev pub invariant-loop-edge : goal.invariant-loop-edge
invariant-loop-edge l = (length l.words ≡ most_nodes) × LedBy (Leads l.edges) l.edge-index (rows l.words)
