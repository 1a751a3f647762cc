-- `stripping::strip` meets its contract: what is taken off, then one case for each answer.
use Rattle.std.proofs.Common.{arith}
use Rattle.stripping.proofs.Freed.{more_asked, named_above, not_freed, small_buffer, freed_written}
use Rattle.stripping.proofs.strip.Goals as goal

pub returns-then-nodes-count : goal.returns-then-nodes-count
returns-then-nodes-count c = rw c.at.ensures (more_asked c.args.g c.args.count (omega arith))

pub returns-then-names_above : goal.returns-then-names_above
returns-then-names_above c = rw c.at-then-names_above.ensures (named_above c.args.g c.args.count (rw (← c.deref.ensures.0) (c.names_above.ensures.0 c.if-names_above.true)))

pub returns-then-c-len : goal.returns-then-c-len
returns-then-c-len c = rw c.at-then-c-len.ensures (not_freed c.args.g c.args.count c.take_off-left.result.graph c.take_off-left.ensures.off (omega arith))

pub returns-then-out-size_of : goal.returns-then-out-size_of
returns-then-out-size_of c =
    let left = c.take_off-left in
    rw c.at-then-out-size_of.ensures
    (small_buffer c.args.g c.args.count left.result.graph left.ensures.off (rw (← c.deref.ensures.0) (c.names_above.ensures.1 c.if-names_above.false))
    (omega arith) (omega arith) left.ensures.kept (omega (arith, c.size_of.ensures)))

pub returns : goal.returns
returns c =
    let left = c.take_off-left in
    rw (c.done.ensures, c.len-nodes.ensures.value)
    (freed_written c.args.g c.args.count left.result.graph left.ensures.off (rw (← c.deref.ensures.0) (c.names_above.ensures.1 c.if-names_above.false))
    (omega arith) (omega arith) left.ensures.kept c.write_request-length.ensures.written)
