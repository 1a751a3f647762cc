use Rattle.writing.proofs.Writing.{Putting}
use Rattle.writing.proofs.put.put_all.Given as goal

abbrev pub invariant-loop-record : goal.invariant-loop-record
invariant-loop-record g l = Putting g.R.AsBytes.bytes g.R.AsBytes.width l.at l.records l.fn.out l.out l.next l.record-index
