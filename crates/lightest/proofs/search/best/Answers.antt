-- `lightest::search::best` meets its contract: some cut, a lightest one, then its list, edge by edge.
-- Assumes nothing.
use Rattle.std.proofs.Common.{arith, false, List, ℕ, ◌≡◌, ◌+◌, ◌<◌, length, replicate, sym, ap₂, ◌∙◌}
use Rattle.graph.specs.Limits.{most_edges}
use Rattle.lightest.specs.declared.Cut as Value
use Rattle.lightest.specs.declared.Problem.{Problem}
use Rattle.lightest.specs.Made.{Made, cut_at, cut_of, edges_of}
use Rattle.lightest.specs.Search.{Parted, Picked, costs}
use Rattle.lightest.proofs.Flags.{flags_at}
use Rattle.lightest.proofs.Grown.{made_by, made_most, made_none}
use Rattle.lightest.proofs.Listed.{Listed, listed_start, listed_gap, listed_skip, listed_room, listed_grown, listed-take, listed_found, listed_all, barren_heavy, barren_slack, barren_none}
use Rattle.lightest.proofs.Mapped.{cost_at, costs_few, weights_long}
use Rattle.lightest.proofs.search.best.Goals as goal
use Rattle.lightest.proofs.search.best.Goals.{then-has, else-has+then-fixed-w+then-from-slack+then-found-weight, else-has+then-fixed-w+then-from-slack+else-found-weight, else-has+else-fixed-w, else-fixed-w-via-then-fixed-w+else-from-slack, else-fixed-w-via-else-fixed-w}

-- a lightest cut, and no edge of it settled
start : (p : Problem) (none first : Value.Cut) {words : List ℕ} {w : ℕ} → (none.weight ≡ 0) × (edges_of none.chosen ≡ replicate most_edges false)
    → Made (costs p) (cut_of first) × Parted p (edges_of first.chosen)
    → Picked (costs p) (Parted p) (cut_of none) (none.weight + first.weight) (cut_at words w) → (w ≡ none.weight + first.weight → words ≡ first.chosen)
    → Listed (costs p) (Parted p) (cut_at words w) (cut_of none) 0
start p none first empty found picked same =
    listed_start (costs_few p) empty.1 (made_none _ _ empty) empty.1 found.0 found.1 picked
    (λ q. ap₂ (λ (x : List ℕ) (v : ℕ). cut_at x v) (sym (same q)) (omega (arith, q, empty.0)))

pub bound-packing-requires : goal.bound-packing-requires
bound-packing-requires c = (made_by _ _ _ (made_none _ _ c.empty-empty.ensures), omega arith)

pub least-weight-requires : goal.least-weight-requires
least-weight-requires c = (made_none _ _ c.empty-empty.ensures, omega (arith, c.empty-empty.ensures.0, c.first_cut-first.ensures.0.small))

pub overflow_sub-slack : goal.overflow_sub-slack
overflow_sub-slack c =
    let p = c.args.problem.now in
    let y = start p c.empty-empty.result c.first_cut-first.result c.empty-empty.ensures c.first_cut-first.ensures c.least-weight.ensures.picked c.least-weight.ensures.best_unchanged in
    listed_gap (costs_few p) y _ c.bound-packing.result.left _ c.empty-empty.ensures.1 c.bound-packing.ensures.packed

pub loop-e-init : goal.loop-e-init
loop-e-init c =
    start c.args.problem.now c.empty-empty.result c.first_cut-first.result c.empty-empty.ensures c.first_cut-first.ensures c.least-weight.ensures.picked c.least-weight.ensures.best_unchanged

pub with_edge-fixed-requires : goal.with_edge-fixed-requires
with_edge-fixed-requires c =
    let p = c.args.problem.now in
    let few = costs_few p in
    let lt : c.loop-e.e < length (costs p) = omega (arith, c.loop-e-test.true, weights_long p.net.edges.now) in
    let below : c.loop-e.e < most_edges = omega (arith, lt, few) in
    let kept = c.loop-e.invariant in
    let same = flags_at most_edges _ c.loop-e.e below ∙ sym c.if-has.ensures in
    let room = listed_room few kept lt (p.posed.some _ lt) same in
    (below, omega (arith, cost_at p c.loop-e.e (c.from-w.ensures ∙ c.weight_of.ensures), room, kept.made.small))

pub least-found-requires : goal.least-found-requires
least-found-requires c =
    let p = c.args.problem.now in
    let lt : c.loop-e.e < length (costs p) = omega (arith, c.loop-e-test.true, weights_long p.net.edges.now) in
    let kept = c.loop-e.invariant in
    let more = c.with_edge-next.ensures in
    let light = made_most _ _ kept.made c.bound-packing.ensures.light in (
      listed_grown (costs_few p) kept lt (p.posed.some _ lt) (cost_at p c.loop-e.e (c.from-w.ensures ∙ c.weight_of.ensures)) more (omega (arith, c.if-fixed-w.true)),
      omega (arith, more.1, c.if-fixed-w.true, light),
    )

pub loop-e-preserved : goal.loop-e-preserved
loop-e-preserved c =
    let p = c.args.problem.now in
    let few = costs_few p in
    let lt : c.loop-e.e < length (costs p) = omega (arith, c.loop-e-test.true, weights_long p.net.edges.now) in
    let below : c.loop-e.e < most_edges = omega (arith, lt, few) in
    let heavy = p.posed.some _ lt in
    let kept = c.loop-e.invariant in
    let w = cost_at p c.loop-e.e (c.from-w.ensures ∙ c.weight_of.ensures) in
    let same = flags_at most_edges _ c.loop-e.e below in
    let skip = listed_skip few kept in
    elim c.if-has.branch [
      | then-has z ↦
          let on = same ∙ sym z.if-has.ensures in
          let room = listed_room few kept lt heavy on in
          rw (z.fixed-is, z.chosen-is) (listed-take few kept lt heavy w z.with_edge-fixed.ensures (omega (arith, w, room)) on)
      | else-has+then-fixed-w+then-from-slack+then-found-weight z ↦
          rw (z.fixed-is, z.chosen-is) (listed_found few kept lt heavy w z.with_edge-next.ensures (omega (arith, z.if-fixed-w.true)) z.least-found.ensures.picked (omega (arith, z.if-found-weight.true)))
      | else-has+then-fixed-w+then-from-slack+else-found-weight z ↦
          let more = z.with_edge-next.ensures in
          let none = barren_none few kept lt heavy w more (omega (arith, z.if-fixed-w.true)) z.least-found.ensures.picked (omega (arith, z.if-found-weight.false)) in
          let stays = z.least-found.ensures.best_unchanged (omega (arith, more.1, z.if-fixed-w.true, z.least-found.ensures.picked.capped.low, z.if-found-weight.false)) in
          rw (z.fixed-is, z.chosen-is ∙ stays) (skip (same ∙ sym z.if-has.ensures) none)
      | else-has+else-fixed-w z ↦ rw (z.fixed-is, z.chosen-is) (skip (same ∙ sym z.if-has.ensures) (elim z.else-fixed-w.branch [
        | else-fixed-w-via-then-fixed-w+else-from-slack v ↦
            barren_slack few kept lt heavy _ c.bound-packing.result.left _ c.empty-empty.ensures.1 c.bound-packing.ensures.packed
            (omega (arith, v.if-from-slack.false, v.from.ensures))
        | else-fixed-w-via-else-fixed-w v ↦ barren_heavy few kept lt heavy (omega (arith, v.if-fixed-w.false, w))
      ]))
    ]

pub returns-clause-least : goal.returns-clause-least
returns-clause-least c =
    let p = c.args.problem.now in
    listed_all (costs_few p) c.loop-e.invariant (omega (arith, c.loop-e-test.false, weights_long p.net.edges.now))
