-- `fence::fence_ask` meets its contract: a refusal is told by its numbers.
use Rattle.fence.proofs.Told.{as_shown}
use Rattle.fence.proofs.fence_ask.Goals as goal

pub returns : goal.returns
returns c = rw (as_shown c.ask.result c.unwrap_or_else.result c.unwrap_or_else.ensures) c.ask.ensures
