-- `request::layout::in_row` meets its contract.
-- Assumes nothing.
use Rattle.std.proofs.Common.{arith, sym, ◌∙◌, ◌≤◌}
use Rattle.request.proofs.Recorded.{counting_end, counting_more, wide}
use Rattle.request.proofs.layout.in_row.Goals as goal

pub loop-letters-smaller : goal.loop-letters-smaller
loop-letters-smaller c =
    let z : 2 ≤ c.width-size.result = omega (arith, c.width-size.ensures, wide c.args.mark) in
    omega (arith, z, (counting_more z (sym c.has_record.ensures ∙ c.loop-letters-test.true) c.loop-letters.invariant).within)

-- one record more, which ends within the file
pub loop-letters-preserved : goal.loop-letters-preserved
loop-letters-preserved c =
    let z : 2 ≤ c.width-size.result = omega (arith, c.width-size.ensures, wide c.args.mark) in
    counting_more z (sym c.has_record.ensures ∙ c.loop-letters-test.true) c.loop-letters.invariant

pub returns-clause-count : goal.returns-clause-count
returns-clause-count c =
    let e = counting_end (sym c.has_record.ensures ∙ c.loop-letters-test.false) c.loop-letters.invariant in
    rw (c.letters-letters.ensures, c.width-size.ensures) at e
