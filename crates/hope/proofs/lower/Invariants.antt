use Rattle.std.proofs.Common.{◌-◌}
use Rattle.std.specs.Int.Count.{ones}
use Rattle.graph.specs.Limits.{most_nodes}
use Rattle.sets.specs.Whole.{whole, rows}
use Rattle.hope.specs.Hope.{Lowered}
use Rattle.hope.proofs.lower.Given as goal

abbrev pub invariant-loop-y : goal.invariant-loop-y
invariant-loop-y l = Lowered (rows l.initial.least) (rows l.least) (whole l.met) (whole l.done) (whole l.m) (whole l.fell)

abbrev pub decreases-loop-y : goal.decreases-loop-y
decreases-loop-y l = most_nodes - ones (whole l.done)
