-- `lightest::search::first_cut` meets its contract: an edge of a missed route a round. What is left of all weights falls.
-- Assumes nothing.
use Rattle.std.proofs.Common.{arith, List, ℕ, ◌≤◌, ◌≡◌, ◌+◌, ◌*◌, get_or, ◌∙◌}
use Rattle.graph.specs.Graph.{no_edge}
use Rattle.graph.specs.Limits.{most_edges}
use Rattle.lightest.specs.declared.Problem.{Problem}
use Rattle.lightest.specs.declared.pack.Packing.{Packing}
use Rattle.lightest.specs.Made.{Cut, Made}
use Rattle.lightest.specs.Search.{Addable, Bounded, Parted, Tightest, costs}
use Rattle.lightest.specs.Sets.{weigh}
use Rattle.lightest.proofs.Grown.{grown, grown_small, made_none}
use Rattle.lightest.proofs.Mapped.{cost_at, costs_few}
use Rattle.lightest.proofs.Residues.{tightest_next}
use Rattle.lightest.proofs.search.first_cut.Goals as goal

-- the edge taken can be added
record Takes (p : Problem) (s : Cut) (e w : ℕ) : Type 0 where
  cost : w ≡ get_or (costs p) e 0
  adds : Addable (costs p) s.chosen e
  room : s.weight + w ≤ most_edges * 65535

takes : (p : Problem) {s : Cut} {b : Packing} {route left : List ℕ} {e w : ℕ} → Made (costs p) s
    → Bounded (costs p) (Parted p) (record { chosen = s.chosen; weight = weigh (costs p) s.chosen }) b
    → route ≡ b.route.items → Tightest route left e → w ≡ (get_or p.net.edges.now e no_edge).weight → Takes p s e w
takes p {e = e} m b q t we =
    let t = rw q at t in
    let some = t.on.1 in
    let adds = tightest_next _ _ _ t (b.next (omega arith)) in
    let cost = cost_at p e we in
    record { cost = cost; adds = adds; room = omega (arith, grown_small _ (costs_few p) _ m _ adds b.light, cost) }

pub loop-e-init : goal.loop-e-init
loop-e-init c = made_none _ _ c.empty-cut.ensures

pub with_edge-cut-requires : goal.with_edge-cut-requires
with_edge-cut-requires c =
    let t = takes c.args.problem.now c.loop-e.invariant c.bound-packing.ensures c.deref.ensures.0 c.in-Some.ensures (c.from.ensures ∙ c.weight_of.ensures) in
    (omega (arith, t.adds.0, costs_few c.args.problem.now), omega (arith, t.room))

pub loop-e-smaller : goal.loop-e-smaller
loop-e-smaller c =
    let t = takes c.args.problem.now c.loop-e.invariant c.bound-packing.ensures c.deref.ensures.0 c.in-Some.ensures (c.from.ensures ∙ c.weight_of.ensures) in
    omega (arith, t.room, t.adds.1, c.with_edge-cut.ensures.1, t.cost)

pub loop-e-preserved : goal.loop-e-preserved
loop-e-preserved c =
    let t = takes c.args.problem.now c.loop-e.invariant c.bound-packing.ensures c.deref.ensures.0 c.in-Some.ensures (c.from.ensures ∙ c.weight_of.ensures) in
    let more = c.with_edge-cut.ensures in
    grown _ (costs_few c.args.problem.now) _ c.loop-e.invariant _ t.adds _ _ t.cost (omega (arith, t.room)) more.0 more.1
