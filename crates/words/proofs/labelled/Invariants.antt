use Rattle.sets.specs.Whole.{whole}
use Rattle.words.specs.Words.{label_at}
use Rattle.words.proofs.Fill.{Tested}
use Rattle.words.proofs.labelled.Given as goal

abbrev pub invariant-loop-q : goal.invariant-loop-q
invariant-loop-q g l = Tested (λ k. g.F.Fn.post l.test (label_at l.nodes k, tt)) l.q (whole l.set)
