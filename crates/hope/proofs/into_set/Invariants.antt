use Rattle.sets.specs.Whole.{whole, rows}
use Rattle.words.specs.Words.{listed}
use Rattle.words.proofs.Fill.{Gathered}
use Rattle.hope.proofs.into_set.Given as goal

abbrev pub invariant-loop-p : goal.invariant-loop-p
invariant-loop-p l = Gathered (λ k. listed (rows l.fits) k l.goal) l.p (whole l.into)
