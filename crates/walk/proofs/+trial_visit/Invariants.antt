-- Each visit has a node more on the route; a trial comes right before its visits.
use Rattle.std.proofs.Common.{false, ◌+◌, ◌-◌, ◌*◌}
use Rattle.std.specs.Int.Count.{ones}
use Rattle.graph.specs.Limits.{most_nodes}
use Rattle.sets.specs.Whole.{whole, rows}
use Rattle.walk.specs.Search.{GivenBack}
use Rattle.walk.proofs.Tried.{FailedBelow}
use Rattle.walk.proofs.+trial_visit.Given as goal

abbrev pub decreases-trial : goal.decreases-trial
decreases-trial l = 2 * (most_nodes - ones (whole l.trail.now.visited)) + 1

abbrev pub decreases-visit : goal.decreases-visit
decreases-visit l = 2 * (most_nodes - ones (whole l.trail.now.visited))

abbrev pub invariant-trial-loop-k : goal.invariant-trial-loop-k
invariant-trial-loop-k l =
    GivenBack false (whole l.initial.trail.visited) (whole l.trail.visited) (whole l.initial.trail.after) (whole l.trail.after) l.initial.nodes l.nodes
    × FailedBelow (rows l.aim.succ.now) (rows l.aim.fits.now) l.aim.goal (whole l.trail.visited) (whole l.trail.after) l.v l.from

abbrev pub decreases-trial-loop-k : goal.decreases-trial-loop-k
decreases-trial-loop-k l = most_nodes - l.from
