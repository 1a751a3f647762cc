-- `hope::Aim::lost` meets its contract: only the short look and the longer one say that nothing is left.
use borrow.Author.Tests.{not-true}
use Rattle.hope.proofs.Aim.lost.Goals as goal

pub returns-then-hopeful : goal.returns-then-hopeful
returns-then-hopeful c = λ e. c.some_way.ensures (not-true _ e)
