-- `request::layout::count` meets its contract.
-- Assumes nothing.
use Rattle.request.proofs.Readings.{rows}
use Rattle.request.proofs.layout.count.Goals as goal

pub returns : goal.returns
returns c =
    let r = rows c.args.file.now c.in_row-nodes.ensures.count c.in_row-nodes.ensures.end c.in_row-edges.ensures.count c.in_row-edges.ensures.end
    c.in_row-rules.ensures.count c.in_row-rules.ensures.end c.in_row-orders.ensures.count c.in_row-orders.ensures.end in
    record { counts = r.0; end = (r.1, c.in_row-orders.ensures.within) }
