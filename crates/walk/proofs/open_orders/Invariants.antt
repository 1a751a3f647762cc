use Rattle.std.proofs.Common.{ℕ, ◌≡◌, ◌<◌, length}
use Rattle.graph.specs.Limits.{most_orders}
use Rattle.sets.specs.Whole.{rows}
use Rattle.walk.proofs.Judged.{Judged}
use Rattle.walk.proofs.open_orders.Given as goal

abbrev pub invariant-loop-i : goal.invariant-loop-i
invariant-loop-i l =
    (length l.«open» ≡ most_orders) × ((j : ℕ) → j < l.i → Judged (rows l.succ) (rows l.fits) l.g.orders.items l.«open» j)
