-- What is packed keeps to the allowance, and is that of the pairs before this one. What is left of the allowance falls.
use Rattle.std.proofs.Common.{List, ℕ, ◌+◌, ◌-◌, ◌≤◌}
use Rattle.sets.specs.Whole.{rows}
use Rattle.route.specs.Way.{starts, ends}
use Rattle.lightest.specs.declared.Problem.{Problem}
use Rattle.lightest.specs.declared.pack.Packing.{Packing}
use Rattle.lightest.specs.Apart.{firsts, seconds}
use Rattle.lightest.specs.Made.{cut_by}
use Rattle.lightest.specs.Search.{costs}
use Rattle.lightest.proofs.Bounding.{Bounding}
use Rattle.lightest.proofs.pack.bound.Given as goal

abbrev pub PackedBefore : Problem → List ℕ → Packing → ℕ → Type 0
PackedBefore p chosen b i =
    Bounding (starts p.net.edges.now) (ends p.net.edges.now) (rows p.net.fits.now) (costs p) (firsts p.pairs.now) (seconds p.pairs.now) (cut_by (costs p) chosen)
    b.left b.route.items b.sum i

abbrev pub invariant-loop-pair : goal.invariant-loop-pair
invariant-loop-pair l = (l.packing.sum ≤ l.allowance) × PackedBefore l.problem l.chosen l.packing l.pair-index

abbrev pub invariant-loop-e : goal.invariant-loop-e
invariant-loop-e l = (l.packing.sum ≤ l.allowance) × PackedBefore l.problem l.chosen l.packing l.pair-index

abbrev pub decreases-loop-e : goal.decreases-loop-e
decreases-loop-e l = l.allowance + 1 - l.packing.sum
