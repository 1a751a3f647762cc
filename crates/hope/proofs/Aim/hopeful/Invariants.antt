use Rattle.sets.specs.Whole.{whole, rows}
use Rattle.hope.proofs.Reached.{Settled}
use Rattle.hope.proofs.Aim.hopeful.Given as goal

abbrev pub invariant-loop-round : goal.invariant-loop-round
invariant-loop-round l =
    Settled (rows l.self.succ.now) (rows l.self.fits.now) (whole l.self.into.now) (whole l.trail.visited) l.v (whole l.trail.after) (whole l.met) (rows l.least) (whole l.left)
