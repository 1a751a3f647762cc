-- `fence::fence_strip` meets its contract: a refusal is told by its numbers.
use Rattle.fence.proofs.Told.{as_report}
use Rattle.fence.proofs.fence_strip.Goals as goal

pub returns : goal.returns
returns c = rw (as_report c.strip.result c.unwrap_or_else.result c.unwrap_or_else.ensures) c.strip.ensures
