-- `route::find_route` meets its contract: node by node of the queue, edge by edge that ends there, until a is reached or no node is left; then
-- edge by edge from a.
-- Assumes nothing.
use Rattle.std.proofs.Common.{rules, arith, refl, sym, ◌∙◌}
use Rattle.route.proofs.Listed.{start_of, end_of, starts_all}
use Rattle.route.proofs.Spreads.{spread_start, spread_next, spread_none, missed, on_same, look_step, look_pass, look_room, look_mark}
use Rattle.route.proofs.Traced.{none_found, trace_start, trace_edge, trace_more, trace_end}
use Rattle.route.proofs.Ways.{way_sealed}
use Rattle.route.proofs.find_route.Goals as goal
use Rattle.route.proofs.find_route.Goals.{then-loop-i-test+else-not-is_reached, else-loop-i-test}

pub returns-then-not-ends_left : goal.returns-then-not-ends_left
returns-then-not-ends_left c =
    let none_left = c.ends_left.ensures c.if-not-ends_left.true in
    rw c.clear.ensures (none_found (λ es w. c.requires.ends.2 (way_sealed _ _ c.args.left.now _ c.requires.net.0.both none_left _ es w)))

pub loop-i-init : goal.loop-i-init
loop-i-init c = rw (c.push.ensures.items, c.clear.ensures) (spread_start c.requires.ends.1 _ refl)

pub bounds-on-v : goal.bounds-on-v
bounds-on-v c =
    let (_, h, l) = look_step c.loop-e.e-iterator c.next.new.self (sym (starts_all c.args.edges.now)) c.loop-e.invariant.2 c.in-Some.ensures.steps c.loop-e.invariant.3 in
    omega (arith, c.from-v.ensures, start_of c.args.edges.now c.in-Some.e, c.requires.net.0.tail c.in-Some.e h)

pub bounds-on-v-then-not-is_reached-2 : goal.bounds-on-v-then-not-is_reached-2
bounds-on-v-then-not-is_reached-2 c =
    let (_, h, l) = look_step c.loop-e.e-iterator c.next.new.self (sym (starts_all c.args.edges.now)) c.loop-e.invariant.2 c.in-Some.ensures.steps c.loop-e.invariant.3 in
    omega (arith, c.from-v.ensures, start_of c.args.edges.now c.in-Some.e, c.requires.net.0.tail c.in-Some.e h)

pub push-requires-then-not-is_reached-2 : goal.push-requires-then-not-is_reached-2
push-requires-then-not-is_reached-2 c =
    let (_, h, l) = look_step c.loop-e.e-iterator c.next.new.self (sym (starts_all c.args.edges.now)) c.loop-e.invariant.2 c.in-Some.ensures.steps c.loop-e.invariant.3 in
    let room = look_room c.requires.net.0 c.requires.net.1 l h (omega (arith, c.if-left-e-ne0.true)) (c.from-v.ensures ∙ sym (start_of c.args.edges.now c.in-Some.e))
    c.if-not-is_reached-2.ensures in
    (search rules, room)

pub loop-e-preserved-then-not-is_reached-2 : goal.loop-e-preserved-then-not-is_reached-2
loop-e-preserved-then-not-is_reached-2 c =
    let (o, h, l) = look_step c.loop-e.e-iterator c.next.new.self (sym (starts_all c.args.edges.now)) c.loop-e.invariant.2 c.in-Some.ensures.steps c.loop-e.invariant.3 in
    let at = c.from-v.ensures ∙ sym (start_of c.args.edges.now c.in-Some.e) in
    let more = look_mark c.requires.net.0 c.requires.net.1 l h (omega (arith, c.if-left-e-ne0.true)) at c.if-not-is_reached-2.ensures o.1 in
    (tt, tt, o.0, rw (c.push-then-not-is_reached-2.ensures.items, ← c.from-v.ensures) more)

pub loop-e-preserved-else-not-is_reached-2 : goal.loop-e-preserved-else-not-is_reached-2
loop-e-preserved-else-not-is_reached-2 c =
    let (o, h, l) = look_step c.loop-e.e-iterator c.next.new.self (sym (starts_all c.args.edges.now)) c.loop-e.invariant.2 c.in-Some.ensures.steps c.loop-e.invariant.3 in
    let at = start_of c.args.edges.now c.in-Some.e ∙ sym c.from-v.ensures in
    (tt, tt, o.0, look_pass c.requires.net.0 c.requires.net.1 l h o.1 (λ _. missed (on_same c.loop-e.on at) ∙ c.if-not-is_reached-2.ensures))

pub loop-e-preserved : goal.loop-e-preserved
loop-e-preserved c =
    let (o, h, l) = look_step c.loop-e.e-iterator c.next.new.self (sym (starts_all c.args.edges.now)) c.loop-e.invariant.2 c.in-Some.ensures.steps c.loop-e.invariant.3 in
    (tt, tt, o.0, look_pass c.requires.net.0 c.requires.net.1 l h o.1 (λ r. absurd (omega (arith, r, c.if-left-e-ne0.false))))

pub loop-i-preserved : goal.loop-i-preserved
loop-i-preserved c = let l = c.loop-e.invariant.3 in spread_next l.spread (omega (arith, starts_all c.args.edges.now, c.in-None.ensures.steps, c.loop-e.invariant.2))

pub loop-at-init : goal.loop-at-init
loop-at-init c =
    let s = c.loop-i.invariant in
    rw c.clear-2.ensures (trace_start c.loop-i.out.items (omega (arith, s.all)) s.led (elim c.loop-i-test.branch [
      | then-loop-i-test+else-not-is_reached w ↦ λ m. absurd (omega (arith, m, w.if-not-is_reached.ensures))
      | else-loop-i-test w ↦ spread_none s c.requires.net.0 (omega (arith, w.loop-i-test.false, c.len.ensures.value)) c.args.a
    ]))

pub push-requires-in-By : goal.push-requires-in-By
push-requires-in-By c = (search rules, (trace_edge c.loop-at.invariant c.in-By.is).1)

pub bounds-edges-from : goal.bounds-edges-from
bounds-edges-from c = omega (arith, (trace_edge c.loop-at.invariant c.in-By.is).0, starts_all c.args.edges.now, c.from-in-By.ensures)

pub loop-at-smaller : goal.loop-at-smaller
loop-at-smaller c = omega (arith, (trace_edge c.loop-at.invariant c.in-By.is).1, c.push-in-By.ensures.len)

pub loop-at-preserved : goal.loop-at-preserved
loop-at-preserved c =
    rw c.push-in-By.ensures.items (trace_more c.loop-at.invariant c.in-By.is (rw (end_of, ← c.from-in-By.ensures) c.from-at.ensures))

pub returns : goal.returns
returns c = trace_end c.loop-at.invariant c.requires.ends.2 c.in_default.not-By
