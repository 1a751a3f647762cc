use Rattle.std.proofs.Common.{ℕ, List, Bool, ltb, length, ◌&&◌}
use Rattle.graph.specs.declared.Node.{Node}
use Rattle.graph.specs.declared.Rule.{Rule}
use Rattle.graph.specs.Tests.{ruledb}
use Rattle.words.specs.Words.{label_at}
use mathlib.Core.Path.{◌≡◌}
use Rattle.graph.specs.Limits.{most_nodes}
use Rattle.sets.specs.Whole.{rows}
use Rattle.words.proofs.Fill.{Rows}
use Rattle.words.proofs.fits_of.Given as goal

-- what the row of a node says of another
abbrev pub tests : List Node → List Rule → ℕ → ℕ → Bool
tests nodes rules p q = ltb q (length nodes) && ruledb rules (label_at nodes p) (label_at nodes q)

abbrev pub invariant-loop-p : goal.invariant-loop-p
invariant-loop-p l = (length l.words ≡ most_nodes) × Rows (tests l.nodes l.rules) l.p (rows l.words)
