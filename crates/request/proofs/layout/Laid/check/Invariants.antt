use mathlib.Core.Path.{◌≡◌}
use lib.ListN.{drop}
use Rattle.request.specs.Tables.{all_checks, checked}
use Rattle.request.proofs.layout.Laid.check.Given as goal

abbrev pub invariant-loop-check : goal.invariant-loop-check
invariant-loop-check l = checked l.self.file.now l.self.counts all_checks ≡ checked l.self.file.now l.self.counts (drop l.check-index all_checks)
