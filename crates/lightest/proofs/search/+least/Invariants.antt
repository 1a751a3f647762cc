-- The allowance falls with each level; a level goes through the edges of its route.
use Rattle.std.proofs.Common.{◌≡◌, ◌+◌}
use Rattle.sets.specs.Whole.{whole}
use Rattle.lightest.specs.Made.{cut_at, cut_of}
use Rattle.lightest.specs.Search.{Parted, costs}
use Rattle.lightest.proofs.Tried.{Tried}
use Rattle.lightest.proofs.search.+least.Given as goal

abbrev pub decreases-least : goal.decreases-least
decreases-least l = l.allowance

abbrev pub invariant-loop-e : goal.invariant-loop-e
invariant-loop-e l =
    Tried (costs l.problem) (Parted l.problem) (cut_of l.cut) (l.cut.weight + l.allowance) (whole l.route) (cut_at l.best l.found) l.e
    × (l.found ≡ l.cut.weight + l.allowance → l.best ≡ l.initial.best)
