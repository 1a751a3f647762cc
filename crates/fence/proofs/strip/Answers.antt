-- `fence::strip` meets its contract: a file that is not accepted is refused; else its graph is stripped.
use Rattle.std.proofs.lemmas.Result.{err_from_is_err_and}
use Rattle.outcome.proofs.Refusals.{strip_refused}
use Rattle.fence.proofs.strip.Goals as goal

pub returns-in_err-counts : goal.returns-in_err-counts
returns-in_err-counts c =
    let p = err_from_is_err_and c.from_residual.result c.from_residual.ensures.1 in
    rw (p.1, p.2) (strip_refused c.in_err-counts.ensures c.args.out.now c.args.count)

pub returns : goal.returns
returns c = c.strip.ensures _ c.decode.ensures.0
