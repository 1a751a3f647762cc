use Rattle.fencing.proofs.Along.{Along}
use Rattle.fencing.proofs.on.put_on.Given as goal

abbrev pub invariant-loop-i : goal.invariant-loop-i
invariant-loop-i l = Along l.flags l.initial.result l.result l.i
