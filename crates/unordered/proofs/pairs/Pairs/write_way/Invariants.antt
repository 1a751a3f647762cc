use Rattle.std.proofs.Common.{ℕ, List, ◌<◌}
use lib.ListN.{length}
use Rattle.unordered.specs.Pairs.{Trail}
use Rattle.unordered.proofs.WayBack.{WayBack}
use Rattle.unordered.proofs.pairs.Pairs.write_way.Given as goal

abbrev pub invariant-loop-j : goal.invariant-loop-j
invariant-loop-j l = (l.j < length l.self.list.items) × ((es : List ℕ) → Trail l.self.list.items l.i es → WayBack l.self.list.items l.last es l.out.items l.j)

abbrev pub decreases-loop-j : goal.decreases-loop-j
decreases-loop-j l = l.j
