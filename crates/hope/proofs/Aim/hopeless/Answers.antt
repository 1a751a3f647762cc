-- `hope::Aim::hopeless` meets its contract: only `hopeful` says that nothing goes on.
use borrow.Author.Tests.{not-true}
use Rattle.hope.proofs.Aim.hopeless.Goals as goal

pub returns-then-branches : goal.returns-then-branches
returns-then-branches c = λ e. c.hopeful.ensures (not-true _ e)
