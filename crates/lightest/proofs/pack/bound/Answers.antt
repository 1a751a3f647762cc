-- `lightest::pack::bound` meets its contract: pair by pair, a route a round. What is left of the allowance falls.
-- Assumes nothing.
use Rattle.std.proofs.Common.{List, ℕ, ◌≡◌, ◌+◌, ◌<◌, arith, ap, length, get_or}
use Rattle.graph.specs.Graph.{no_order}
use Rattle.route.specs.Way.{starts, ends}
use Rattle.sets.specs.Whole.{rows}
use Rattle.walked.specs.Unordered.{FoundUnordered}
use Rattle.lightest.specs.declared.Problem.{Problem}
use Rattle.lightest.specs.Made.{Cut, Made}
use Rattle.lightest.specs.Search.{Earlier, Reduced, Tightest, costs}
use Rattle.lightest.specs.Apart.{firsts, seconds}
use Rattle.lightest.proofs.Bounding.{Bounding, found_of, bounding_start, bounding_next, bounding_more, bounding_end, kept_some}
use Rattle.lightest.proofs.Mapped.{first_at, second_at, firsts_long}
use Rattle.lightest.proofs.pack.bound.Goals as goal

-- a round: a route of the pair, and less is left along it
round : (p : Problem) {s : Cut} {left left' first r d d' o : List ℕ} {sum i a b e w : ℕ} → Made (costs p) s
    → Bounding (starts p.net.edges.now) (ends p.net.edges.now) (rows p.net.fits.now) (costs p) (firsts p.pairs.now) (seconds p.pairs.now) s left first sum i
    → i < length p.pairs.now → a ≡ (get_or p.pairs.now i no_order).first → b ≡ (get_or p.pairs.now i no_order).second
    → FoundUnordered (starts p.net.edges.now) (ends p.net.edges.now) (rows p.net.fits.now) left a b r → d ≡ r → Tightest d left e → d' ≡ r
    → Reduced d' (get_or left e 0) left left' → w ≡ get_or left e 0 → Earlier first r o
    → (0 < length o) × Bounding (starts p.net.edges.now) (ends p.net.edges.now) (rows p.net.fits.now) (costs p) (firsts p.pairs.now) (seconds p.pairs.now) s left' o (sum + w) i
round p {r = r} {i = i} m f lt pa pb fo q t q' less we k =
    let l : i < length (firsts p.pairs.now) = omega (arith, firsts_long p.pairs.now) in
    let looked = found_of p.pairs.now i pa pb fo in
    let t = rw q at t in
    let less = rw q' at less in
    let some : 0 < length r = omega (arith, t.on.1) in
    (kept_some p.posed m f l looked some k, bounding_more p.posed m f l looked some k t.least less we)

pub loop-pair-init : goal.loop-pair-init
loop-pair-init c =
    let u = c.unspent.ensures.left in
    (omega arith, bounding_start c.args.problem.now.posed c.requires.0 u.0 u.1 (ap length c.new.ensures))

pub find_route-requires : goal.find_route-requires
find_route-requires c =
    let pairs = c.args.problem.now.pairs.now in
    let i = c.loop-pair.pair-index in
    let p = c.args.problem.now.posed.ends i (omega (arith, firsts_long pairs)) in
    let a = first_at pairs i in
    let b = second_at pairs i in
    (omega (arith, a, c.from-a.ensures), omega (arith, b, c.from-b.ensures), λ e. p.2 (cc))

pub loop-pair-preserved : goal.loop-pair-preserved
loop-pair-preserved c =
    let pairs = c.args.problem.now.pairs.now in
    let looked = found_of pairs c.loop-pair.pair-index c.from-a.ensures c.from-b.ensures c.find_route.ensures in
    let none = rw c.deref.ensures.0 at c.in_default.ensures in
    (c.loop-e.invariant.0, bounding_next c.args.problem.now.posed c.requires.0 c.loop-e.invariant.1 (omega (arith, firsts_long pairs)) looked none)

pub returns-then-allowance-packing : goal.returns-then-allowance-packing
returns-then-allowance-packing c =
    let more = round c.args.problem.now c.requires.0 c.loop-e.invariant.1 c.loop-pair-test.true c.from-a.ensures c.from-b.ensures c.find_route.ensures
    c.deref.ensures.0 c.in-Some.ensures c.deref-in-loop-e.ensures.0 c.reduce.ensures c.from.ensures c.keep_first.ensures in
    bounding_end c.args.problem.now.posed c.requires.0 c.unspent.ensures.light more.1 (λ z. absurd (omega (arith, more.0, z)))

pub loop-e-preserved : goal.loop-e-preserved
loop-e-preserved c =
    let more = round c.args.problem.now c.requires.0 c.loop-e.invariant.1 c.loop-pair-test.true c.from-a.ensures c.from-b.ensures c.find_route.ensures
    c.deref.ensures.0 c.in-Some.ensures c.deref-in-loop-e.ensures.0 c.reduce.ensures c.from.ensures c.keep_first.ensures in
    (omega arith, more.1)
