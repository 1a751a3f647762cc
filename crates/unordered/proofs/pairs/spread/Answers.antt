-- `unordered::pairs::spread` meets its contract: pair by pair, edge by edge.
use Rattle.std.proofs.Common.{arith, ◌≡◌, ◌<◌, ℕ, [], None, Some, length, get_or, set, refl, sym, ap, ◌∙◌, inl, inr}
use Rattle.std.proofs.lemmas.Bool.Decides.{nat_tests}
use Rattle.graph.proofs.Splits.{true_false}
use Rattle.hope.specs.Hope.{most_pairs}
use Rattle.route.proofs.Listed.{starts_all}
use Rattle.sets.specs.Whole.{rows}
use Rattle.sets.proofs.Rows.{row_at, rows-set, rows-length}
use Rattle.unordered.specs.declared.pairs.Pair.{Pair}
use Rattle.unordered.proofs.Pushed.{node_at}
use Rattle.unordered.proofs.Going.{going, leads_to}
use Rattle.unordered.proofs.Trails.{trails_start}
use Rattle.unordered.proofs.Turns.{done_start, done_found, turn_start, turn_end, turn_skip, turn_on, turn_add, turn_arrived, arrived_found}
use Rattle.unordered.proofs.pairs.spread.Goals as goal

pub loop-i-init : goal.loop-i-init
loop-i-init c =
    let k = c.args.kept.now in let fits = c.args.fits.now in let a = c.args.a in let q = c.requires.ends in
    let w : rows (set k 0 (get_or fits a [])) ≡ set (rows k) 0 (get_or (rows fits) a 0) =
    rows-set k 0 (get_or fits a []) ∙ ap (set (rows k) 0) (sym (row_at fits a)) in
    let long : length (rows k) ≡ most_pairs = rows-length k ∙ c.told-kept in
    let p : Pair = record { node = a; by = None; prior = None } in
    rw c.start-pairs.ensures (done_start p (rows k) refl q.0 long w, trails_start p (rows k) refl refl q.0 q.2 long w)

pub at-e-items-requires-clause-node : goal.at-e-items-requires-clause-node
at-e-items-requires-clause-node c =
    let l = c.loop-i in
    let h : l.i < length l.pairs.list.items = omega (arith, c.loop-i-test.true, c.len.ensures.value) in
    omega (arith, node_at c.deref.ensures.0 h c.from.ensures, l.invariant.1.low l.i h)

pub loop-e-init : goal.loop-e-init
loop-e-init c =
    let links = c.args.outs.now.entries in let l = c.loop-i in let at = c.at-e-items.ensures in
    let h : l.i < length l.pairs.list.items = omega (arith, c.loop-i-test.true, c.len.ensures.value) in
    rw c.into_iter-e-iterator.ensures.into_iter_gives (
      tt,
      tt,
      (at.0, at.1),
      turn_start links c.requires.net.1 l.invariant.0 l.invariant.1 h (sym (row_at l.kept l.i))
          (at.2 ∙ ap (λ (x : ℕ). get_or links x 0) (node_at c.deref.ensures.0 h c.from.ensures)),
    )

pub loop-e-preserved-then-left-e-eq0 : goal.loop-e-preserved-then-left-e-eq0
loop-e-preserved-then-left-e-eq0 c =
    let net = c.requires.net in let l = c.loop-e in
    let (o, k) = going c.args.edges.now c.args.outs.now c.args.fits.now l.e-iterator c.next.new.self net.1 l.invariant.2 l.invariant.3 c.in-Some.ensures.steps in
    (tt, tt, o, turn_skip k (omega (arith, c.if-left-e-eq0.true)))

pub marked-w-requires : goal.marked-w-requires
marked-w-requires c =
    let net = c.requires.net in let l = c.loop-e in
    let (o, k) = going c.args.edges.now c.args.outs.now c.args.fits.now l.e-iterator c.next.new.self net.1 l.invariant.2 l.invariant.3 c.in-Some.ensures.steps in
    (leads_to c.args.edges.now net.0 c.from-y.ensures k.known).1

pub loop-e-preserved-then-has : goal.loop-e-preserved-then-has
loop-e-preserved-then-has c =
    let net = c.requires.net in let l = c.loop-e in
    let (o, k) = going c.args.edges.now c.args.outs.now c.args.fits.now l.e-iterator c.next.new.self net.1 l.invariant.2 l.invariant.3 c.in-Some.ensures.steps in
    (tt, tt, o, turn_on k (leads_to c.args.edges.now net.0 c.from-y.ensures k.known).0 c.marked-w.ensures (inl (sym c.has.ensures ∙ c.if-has.true)))

pub write_way-requires : goal.write_way-requires
write_way-requires c =
    let net = c.requires.net in let l = c.loop-e in
    let (o, k) = going c.args.edges.now c.args.outs.now c.args.fits.now l.e-iterator c.next.new.self net.1 l.invariant.2 l.invariant.3 c.in-Some.ensures.steps in
    let v = turn_arrived k (leads_to c.args.edges.now net.0 c.from-y.ensures k.known).0 c.marked-w.ensures (omega (arith, c.if-left-e-eq0.false)) c.requires.ends.1 c.if-y-goal.true
    (sym c.has.ensures ∙ c.if-has.false) in
    (k.turn.within, omega (arith, k.known, net.0.few), (v.es, v.trail, omega (arith, v.few)))

pub returns-then-y-goal : goal.returns-then-y-goal
returns-then-y-goal c =
    let net = c.requires.net in let l = c.loop-e in
    let (o, k) = going c.args.edges.now c.args.outs.now c.args.fits.now l.e-iterator c.next.new.self net.1 l.invariant.2 l.invariant.3 c.in-Some.ensures.steps in
    let v = turn_arrived k (leads_to c.args.edges.now net.0 c.from-y.ensures k.known).0 c.marked-w.ensures (omega (arith, c.if-left-e-eq0.false)) c.requires.ends.1 c.if-y-goal.true
    (sym c.has.ensures ∙ c.if-has.false) in
    arrived_found v c.write_way.ensures

pub known-requires : goal.known-requires
known-requires c =
    let net = c.requires.net in let l = c.loop-e in
    let (o, k) = going c.args.edges.now c.args.outs.now c.args.fits.now l.e-iterator c.next.new.self net.1 l.invariant.2 l.invariant.3 c.in-Some.ensures.steps in
    (leads_to c.args.edges.now net.0 c.from-y.ensures k.known).1

pub loop-e-preserved-then-known : goal.loop-e-preserved-then-known
loop-e-preserved-then-known c =
    let net = c.requires.net in let l = c.loop-e in
    let (o, k) = going c.args.edges.now c.args.outs.now c.args.fits.now l.e-iterator c.next.new.self net.1 l.invariant.2 l.invariant.3 c.in-Some.ensures.steps in
    (tt, tt, o, turn_on k (leads_to c.args.edges.now net.0 c.from-y.ensures k.known).0 c.marked-w.ensures (inr (c.if-y-goal.false, c.known.ensures.0 c.if-known.true)))

pub add-requires-clause-known : goal.add-requires-clause-known
add-requires-clause-known c =
    let net = c.requires.net in let l = c.loop-e in
    let (o, k) = going c.args.edges.now c.args.outs.now c.args.fits.now l.e-iterator c.next.new.self net.1 l.invariant.2 l.invariant.3 c.in-Some.ensures.steps in
    ((leads_to c.args.edges.now net.0 c.from-y.ensures k.known).1, omega (arith, k.known, net.0.few), omega (arith, k.turn.within, k.turn.trails.few))

pub loop-e-preserved : goal.loop-e-preserved
loop-e-preserved c =
    let net = c.requires.net in let l = c.loop-e in let ps = l.pairs.list.items in
    let (o, k) = going c.args.edges.now c.args.outs.now c.args.fits.now l.e-iterator c.next.new.self net.1 l.invariant.2 l.invariant.3 c.in-Some.ensures.steps in
    let free : length ps < most_pairs = grind (arith, nat_tests, c.is_full.ensures.value, c.if-is_full.false, k.turn.trails.few) in
    let p : Pair = record { node = c.from-y.result; by = Some (record { via = c.in-Some.e; parent = c.loop-i.i }); prior = get_or l.pairs.last c.from-y.result None } in
    let y = leads_to c.args.edges.now net.0 c.from-y.ensures k.known in (
      tt,
      tt,
      o,
      rw (c.add.ensures, rows-set, c.len-in-loop-e.ensures.value)
          (turn_add k y.0 c.marked-w.ensures p refl refl c.if-y-goal.false free y.1 (omega (arith, c.if-left-e-eq0.false))
          (λ d. true_false (c.known.ensures.1 d) c.if-known.false)),
    )

pub loop-i-preserved : goal.loop-i-preserved
loop-i-preserved c =
    let t = c.loop-e.invariant.3 in
    (turn_end t (omega (arith, starts_all c.args.edges.now, c.in-None.ensures.steps, c.loop-e.invariant.2)), t.trails)

pub returns : goal.returns
returns c =
    let l = c.loop-i in rw c.clear.ensures (done_found c.requires.net.0 l.invariant.0 (omega (arith, c.loop-i-test.false, c.len.ensures.value)))
