use Rattle.sets.specs.Whole.{whole}
use Rattle.lightest.specs.Search.{Marks}
use Rattle.lightest.proofs.search.edges_of.Given as goal

abbrev pub invariant-loop-e : goal.invariant-loop-e
invariant-loop-e l = Marks l.route l.e-index (whole l.set)
