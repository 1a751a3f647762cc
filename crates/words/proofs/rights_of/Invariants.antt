use mathlib.Core.Path.{◌≡◌}
use lib.ListN.{length}
use Rattle.graph.specs.Limits.{most_rules}
use Rattle.sets.specs.Whole.{rows}
use Rattle.words.specs.Rows.{Rights}
use Rattle.words.proofs.rights_of.Given as goal

abbrev pub invariant-loop-i : goal.invariant-loop-i
invariant-loop-i l = (length l.rights ≡ most_rules) × Rights l.nodes l.rules l.i (rows l.rights)
