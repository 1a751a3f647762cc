use Rattle.lightest.specs.Made.{cut_at, cut_of}
use Rattle.lightest.specs.Search.{Parted, costs}
use Rattle.lightest.proofs.Listed.{Listed}
use Rattle.lightest.proofs.search.best.Given as goal

abbrev pub invariant-loop-e : goal.invariant-loop-e
invariant-loop-e l = Listed (costs l.problem) (Parted l.problem) (cut_at l.chosen l.weight) (cut_of l.fixed) l.e
