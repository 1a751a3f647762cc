-- `request::layout::Laid::check` meets its contract.
-- Assumes nothing.
use Rattle.std.proofs.Common.{Err, arith, ◌≡◌, sym, ap, ◌∙◌}
use Rattle.request.proofs.Cases.{checks_done, turn_fails, turn_passes}
use Rattle.request.proofs.layout.Laid.check.Goals as goal

pub returns-in-Some : goal.returns-in-Some
returns-in-Some c =
    ap Err c.at.ensures ∙ turn_fails _ _ c.loop-check.check-index (omega arith) c.loop-check.invariant c.in-Some.ensures c.answer.ensures c.start.ensures

pub loop-check-preserved : goal.loop-check-preserved
loop-check-preserved c =
    turn_passes _ _ c.loop-check.check-index (omega arith) c.loop-check.invariant (rw c.in_default.is at c.first_failing.ensures)

pub returns : goal.returns
returns c = let e : c.loop-check.check-index ≡ 9 = omega arith in sym (rw e at c.loop-check.invariant ∙ checks_done _ _)
