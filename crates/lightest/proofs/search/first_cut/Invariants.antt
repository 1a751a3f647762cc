use Rattle.std.proofs.Common.{◌*◌, ◌-◌}
use Rattle.graph.specs.Limits.{most_edges}
use Rattle.lightest.specs.Made.{Made, cut_of}
use Rattle.lightest.specs.Search.{costs}
use Rattle.lightest.proofs.search.first_cut.Given as goal

abbrev pub invariant-loop-e : goal.invariant-loop-e
invariant-loop-e l = Made (costs l.problem) (cut_of l.cut)

abbrev pub decreases-loop-e : goal.decreases-loop-e
decreases-loop-e l = most_edges * 65535 - l.cut.weight
