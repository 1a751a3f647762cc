-- `hope::Aim::lower_on` meets its contract: the nodes that a way may go on to are in no other set.
use Rattle.sets.proofs.Rows.{row_at}
use Rattle.hope.proofs.Aim.lower_on.Goals as goal

pub returns : goal.returns
returns c =
    rw (row_at c.args.self.now.succ.now c.args.x, ← c.both.ensures, ← c.either.ensures, ← c.without-next.ensures) c.lower.ensures
