use Rattle.sets.specs.Whole.{whole, rows}
use Rattle.route.specs.Way.{starts, ends}
use Rattle.judge.proofs.Tested.{Tested}
use Rattle.judge.proofs.judged.Given as goal

abbrev pub invariant-loop-e : goal.invariant-loop-e
invariant-loop-e l = Tested (starts l.edges) (ends l.edges) (rows l.fits) l.route l.a (whole l.seen) (whole l.after) l.at l.e-index
