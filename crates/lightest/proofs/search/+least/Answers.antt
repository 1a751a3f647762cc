-- `lightest::search::least` meets its contract: by the bound, or edge by edge of a route.
-- Assumes nothing.
use Rattle.std.proofs.Common.{arith, Bool, true, List, ℕ, ◌≡◌, ◌+◌, ◌-◌, ◌<◌, set, sym, ◌∙◌}
use Rattle.lightest.specs.Sets.{weigh}
use Rattle.lightest.specs.Made.{Cut, cut_at, cut_by, cut_of, edges_of, most_weight}
use Rattle.lightest.specs.declared.Cut as Value
use Rattle.lightest.specs.declared.search.Level.{Level}
use Rattle.lightest.specs.Search.{Addable, Levelled, Picked}
use Rattle.lightest.proofs.Mapped.{cost_at, costs_few}
use Rattle.lightest.proofs.Grown.{grown}
use Rattle.lightest.proofs.Tried.{Deeper, deeper_low, pick_tight, tried_heavy, tried_hit, tried_same, tried_skip}
use Rattle.lightest.proofs.search.+least.Goals as goal
use Rattle.lightest.proofs.search.+least.Goals.{then-has+then-cut-w+then-lighter+else-found-cut, then-has+then-cut-w+else-lighter, else-has, else-has-via-then-has+else-cut-w, else-has-via-else-has}

-- what the level knows, of the cut with its weight
level : {ws : List ℕ} {P : List Bool → Type 0} {w : ℕ} {l : Level} (words : List ℕ) → weigh ws (edges_of words) ≡ w
    → Levelled ws P (cut_by ws words) l → Levelled ws P (cut_at words w) l
level words z h = rw z at h

-- what is found a level deeper
deeper : {ws : List ℕ} {P : List Bool → Type 0} {s c : Cut} {e more : ℕ} (found : ℕ) (n : Value.Cut) (w : ℕ) → Addable ws s.chosen e
    → (edges_of n.chosen ≡ set s.chosen e true) × (n.weight ≡ s.weight + w) → Picked ws P (cut_of n) (n.weight + more) c
    → s.weight + w < found → more ≡ found - n.weight → Deeper ws P s e found c
deeper found n w edge grows p lt q =
    record { edge = edge; cut = cut_of n; more = grows.0; light = omega (arith, lt, grows.1); picked = rw q at p }

pub least-c-requires : goal.least-c-requires
least-c-requires t c =
    let p = c.args.problem.now in
    let so = c.loop-e.invariant.0 in
    let on = rw c.in-Some.is at c.level_of-level.ensures.onward in
    let edge = on.0 c.loop-e.e (sym c.if-has.ensures) in
    let more = c.with_edge-next.ensures in
    let cost = cost_at p c.loop-e.e (c.from-w.ensures ∙ c.weight_of.ensures) in
    let low : c.args.cut.now.weight + c.from-w.result < most_weight = omega (arith, so.capped.low, c.requires.1) in
    let bigger = grown _ (costs_few p) _ c.requires.0 _ edge (cut_of c.with_edge-next.result) _ cost low more.0 more.1 in
    (omega (arith, c.decreases, so.capped.low, more.1, cost, edge.1), (bigger, omega (arith, more.1, so.capped.low, c.requires.1)))

pub lighter-requires : goal.lighter-requires
lighter-requires t c =
    let so = c.loop-e.invariant.0 in
    let more = c.with_edge-next.ensures in
    let low = c.least-c.ensures.picked.capped.low in
    (omega (arith, low, more.1, c.if-cut-w.true, so.capped.low, c.requires.1), omega (arith, so.capped.low, c.requires.1))

pub returns-then-found-cut-clause-picked : goal.returns-then-found-cut-clause-picked
returns-then-found-cut-clause-picked t c =
    let p = c.args.problem.now in
    let so = c.loop-e.invariant.0 in
    let b = level c.args.cut.now.chosen c.requires.0.sum c.level_of-level.ensures in
    let on = rw c.in-Some.is at c.level_of-level.ensures.onward in
    let edge = on.0 c.loop-e.e (sym c.if-has.ensures) in
    let d = deeper c.loop-e.found c.with_edge-next.result _ edge c.with_edge-next.ensures c.least-c.ensures.picked (omega (arith, c.if-cut-w.true)) (omega arith) in
    pick_tight b.packed.0 _ (tried_hit so (costs_few p) c.requires.0 d c.if-lighter.ensures).capped b.packed.1 (omega (arith, c.if-found-cut.true))

pub loop-e-preserved : goal.loop-e-preserved
loop-e-preserved t c =
    let p = c.args.problem.now in
    let few = costs_few p in
    let so = c.loop-e.invariant.0 in
    let made = c.requires.0 in
    let kept = c.loop-e.invariant.1 in
    let on = rw c.in-Some.is at c.level_of-level.ensures.onward in
    let edge = on.0 c.loop-e.e in
    elim c.if-has.branch [
      | then-has+then-cut-w+then-lighter+else-found-cut w ↦
          let d = deeper c.loop-e.found w.with_edge-next.result _ (edge (sym w.if-has.ensures)) w.with_edge-next.ensures w.least-c.ensures.picked (omega (arith, w.if-cut-w.true)) (omega arith) in
          let lt = w.if-lighter.ensures in
          rw (w.best-is, w.found-is) (tried_hit so few made d lt, λ e. absurd (omega (arith, e, lt, so.capped.low)))
      | then-has+then-cut-w+else-lighter w ↦
          let d = deeper c.loop-e.found w.with_edge-next.result _ (edge (sym w.if-has.ensures)) w.with_edge-next.ensures w.least-c.ensures.picked (omega (arith, w.if-cut-w.true)) (omega arith) in
          let ge = w.if-lighter.ensures in
          rw (w.best-is ∙ w.least-c.ensures.best_unchanged (omega (arith, d.light, ge, deeper_low d)), w.found-is) (tried_same so few made d ge, kept)
      | else-has w ↦ rw (w.best-is, w.found-is) (elim w.else-has.branch [
        | else-has-via-then-has+else-cut-w v ↦
            (tried_heavy so few made (edge (sym v.if-has.ensures)) (omega (arith, v.if-cut-w.false, cost_at p c.loop-e.e (c.from-w.ensures ∙ c.weight_of.ensures))), kept)
        | else-has-via-else-has v ↦ (tried_skip so (sym v.if-has.ensures), kept)
      ])
    ]
