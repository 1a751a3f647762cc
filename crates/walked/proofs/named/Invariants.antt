use Rattle.std.proofs.Common.{◌≡◌, ◌+◌, ◌≤◌, length, drop}
use Rattle.route.specs.Way.{starts, ends}
use Rattle.walked.specs.Steps.{Named}
use Rattle.walked.proofs.named.Given as goal

abbrev pub invariant-loop-step : goal.invariant-loop-step
invariant-loop-step l =
    goal.iterator-loop-step.can_next l.step-iterator × goal.iterator-loop-step.is_finite l.step-iterator
    × (l.step-iterator.size ≡ 2) × (l.step-iterator.rest.now ≡ drop (length l.out.items) l.nodes)
    × (length l.out.items + 1 ≤ length l.nodes) × Named (starts l.edges) (ends l.edges) l.left l.nodes l.out.items (length l.out.items)
