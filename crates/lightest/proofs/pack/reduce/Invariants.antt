use Rattle.lightest.proofs.Residues.{Taken}
use Rattle.lightest.proofs.pack.reduce.Given as goal

abbrev pub invariant-loop-e : goal.invariant-loop-e
invariant-loop-e l = Taken l.route l.a l.initial.left l.left l.e-index
