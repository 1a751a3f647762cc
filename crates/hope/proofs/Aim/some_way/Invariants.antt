use Rattle.std.proofs.Common.{ℕ, List, ◌-◌, length}
use Rattle.std.specs.Int.Count.{ones}
use Rattle.graph.specs.Limits.{most_nodes}
use Rattle.sets.specs.Whole.{whole, rows}
use Rattle.hope.specs.Hope.{most_pairs}
use Rattle.hope.proofs.Sifted.{Lookout, Sifted, Passing}
use Rattle.hope.proofs.Aim.some_way.Given as goal

-- where the ways on are looked for
abbrev pub lookout : List (List ℕ) → List (List ℕ) → ℕ → List ℕ → List ℕ → ℕ → Lookout
lookout succ fits goal visited after v = record { succ = rows succ; fits = rows fits; goal = goal; visited = whole visited; after = whole after; v = v }

abbrev pub invariant-loop-y : goal.invariant-loop-y
invariant-loop-y l =
    Passing (lookout l.self.succ.now l.self.fits.now l.self.goal l.trail.visited l.trail.after l.v) l.nodes.items (rows l.kept) (length l.nodes.items) l.i (whole l.next) (whole l.ordered) (whole l.tried)

abbrev pub decreases-loop-y : goal.decreases-loop-y
decreases-loop-y l = most_nodes - ones (whole l.tried)

abbrev pub invariant-loop-i : goal.invariant-loop-i
invariant-loop-i l =
    Sifted (lookout l.self.succ.now l.self.fits.now l.self.goal l.trail.visited l.trail.after l.v) l.nodes.items (rows l.kept) (length l.nodes.items) l.i (whole l.trail.visited)

abbrev pub decreases-loop-i : goal.decreases-loop-i
decreases-loop-i l = most_pairs - l.i
