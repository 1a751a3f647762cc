-- `fence::fence_run` meets its contract: a refusal is told by its numbers.
use Rattle.fence.proofs.Told.{as_report}
use Rattle.fence.proofs.fence_run.Goals as goal

pub returns : goal.returns
returns c = rw (as_report c.run.result c.unwrap_or_else.result c.unwrap_or_else.ensures) c.run.ensures
