-- `writing::put::put_all` meets its contract: record by record.
use native.Mathlib.Omega.{arith}
use Rattle.writing.proofs.Writing.{putting_none, putting_room, putting_more, putting_all}
use Rattle.writing.proofs.put.put_all.Goals as goal

pub loop-record-init : goal.loop-record-init
loop-record-init g c = putting_none (omega (arith, c.requires))

pub put_at-next-requires : goal.put_at-next-requires
put_at-next-requires g c = putting_room c.loop-record.invariant c.requires c.loop-record-test.true

pub loop-record-preserved : goal.loop-record-preserved
loop-record-preserved g c =
    putting_more c.loop-record.invariant c.record-item.result c.loop-record-test.true c.put_at-next.ensures.end
    (rw (c.record-item.is) at c.put_at-next.ensures.written)

pub returns-clause-end : goal.returns-clause-end
returns-clause-end g c = (putting_all c.loop-record.invariant (omega (arith, c.loop-record-test.false))).0

pub returns-clause-written : goal.returns-clause-written
returns-clause-written g c = (putting_all c.loop-record.invariant (omega (arith, c.loop-record-test.false))).1
