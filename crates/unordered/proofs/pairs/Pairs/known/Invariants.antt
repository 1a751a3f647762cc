use Rattle.sets.specs.Whole.{whole, rows}
use Rattle.unordered.specs.Pairs.{up_to}
use Rattle.unordered.proofs.Looked.{Looked}
use Rattle.unordered.proofs.pairs.Pairs.known.Given as goal

abbrev pub invariant-loop-rest : goal.invariant-loop-rest
invariant-loop-rest l = Looked l.self.list.items (rows l.kept) l.y (whole l.w) l.rest

abbrev pub decreases-loop-rest : goal.decreases-loop-rest
decreases-loop-rest l = up_to l.rest
