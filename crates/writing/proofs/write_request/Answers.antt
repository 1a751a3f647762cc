-- `writing::write_request` meets its contract: the parts one after the other are the file.
use Rattle.writing.proofs.Writing.{request-whole}
use Rattle.writing.proofs.write_request.Goals as goal

pub returns-clause-written : goal.returns-clause-written
returns-clause-written c =
    let n = c.deref.ensures in let e = c.deref-2.ensures in let r = c.deref-3.ensures in let o = c.deref-4.ensures in
    request-whole c.args.g.now
    (rw (n.0) at c.put_all-edges_at.ensures.written) (rw (e.0) at c.put_all-rules_at.ensures.written)
    (rw (r.0) at c.put_all-orders_at.ensures.written) (rw (o.0) at c.put_all-end.ensures.written) c.put.ensures.written
