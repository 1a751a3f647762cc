-- `request::read` meets its contract.
-- Assumes nothing.
use Rattle.std.proofs.Common.{arith, sym, ◌∙◌}
use Rattle.std.proofs.lemmas.Result.{err_from_is_err_and}
use Rattle.request.proofs.Answered.{answered}
use Rattle.request.proofs.Readings.{read_1, read_2}
use Rattle.request.proofs.read.Goals as goal

-- what is read is bytes
pub returns-in_err-laid : goal.returns-in_err-laid
returns-in_err-laid c =
    let p = err_from_is_err_and c.from_residual.result c.from_residual.ensures.1 in
    rw (p.1, p.2) (answered _ _ (λ i. omega (arith, c.type_inv.file i)) (sym (read_1 _ c.in_err-laid.ensures)))

pub returns : goal.returns
returns c =
    answered _ _ (λ i. omega (arith, c.type_inv.file i)) (rw c.in_ok-laid.ensures.0 at c.check.ensures ∙ sym (read_2 _ _ c.in_ok-laid.ensures.1))
