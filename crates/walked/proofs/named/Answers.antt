-- `walked::named` meets its contract: edge by edge.
-- Assumes nothing.
use Rattle.std.proofs.Common.{arith, length, sym, ap, ◌∙◌}
use lib.ListN.{length-drop}
use Rattle.route.specs.Way.{starts, ends}
use Rattle.walked.proofs.Edges.{two_at, between_some, named_more}
use Rattle.walked.proofs.named.Goals as goal

pub edge_between-e-requires : goal.edge_between-e-requires
edge_between-e-requires c =
    let s = c.in-Some.ensures.steps in let i = c.loop-step.invariant in
    let two = two_at c.args.nodes.now c.loop-step.step-iterator.rest.now c.next.new.self.rest.now c.in-Some.step.now (length c.loop-step.out.items) i.3
    (omega (arith, s.1.0, i.2)) (rw (← i.2) s.1.1) s.1.2 in
    let (n, all, few, steps) = c.requires.steps in
    let (x, (l, o, p, q)) = steps (length c.loop-step.out.items) (omega (arith, two.3, all)) in
    (c.requires.net.0, c.requires.net.1, omega (arith, c.from.ensures, two.0, p, c.requires.net.0.tail x l))

pub loop-step-preserved-in-Some-e : goal.loop-step-preserved-in-Some-e
loop-step-preserved-in-Some-e c =
    let s = c.in-Some.ensures.steps in let i = c.loop-step.invariant in
    let two = two_at c.args.nodes.now c.loop-step.step-iterator.rest.now c.next.new.self.rest.now c.in-Some.step.now (length c.loop-step.out.items) i.3
    (omega (arith, s.1.0, i.2)) (rw (← i.2) s.1.1) s.1.2 in
    let goes = c.in-Some-e.ensures in
    let more = named_more (starts c.args.edges.now) (ends c.args.edges.now) c.args.left.now c.args.nodes.now c.loop-step.out.items c.in-Some-e.e i.5
    (goes.0, goes.1, goes.2 ∙ c.from.ensures ∙ two.0, goes.3 ∙ c.from-in-loop-step.ensures ∙ two.1) in
    (omega (arith, s.0, i.2), tt, s.0 ∙ i.2, rw c.push.ensures.len two.2, omega (arith, c.push.ensures.len, two.3), rw c.push.ensures.items more)

pub loop-step-preserved : goal.loop-step-preserved
loop-step-preserved c =
    let s = c.in-Some.ensures.steps in let i = c.loop-step.invariant in
    let two = two_at c.args.nodes.now c.loop-step.step-iterator.rest.now c.next.new.self.rest.now c.in-Some.step.now (length c.loop-step.out.items) i.3
    (omega (arith, s.1.0, i.2)) (rw (← i.2) s.1.1) s.1.2 in
    let (n, all, few, steps) = c.requires.steps in
    let (x, (l, o, p, q)) = steps (length c.loop-step.out.items) (omega (arith, two.3, all)) in
    absurd (between_some _ _ c.edge_between-e.result c.edge_between-e.ensures
    (x, (l, o, p ∙ sym two.0 ∙ sym c.from.ensures, q ∙ sym two.1 ∙ sym c.from-in-loop-step.ensures)) c.in_default.not-Some)

pub returns : goal.returns
returns c = let i = c.loop-step.invariant in (omega (arith, i.2, i.4, c.in-None.ensures.steps, ap length i.3, length-drop (length c.loop-step.out.items) c.args.nodes.now), i.5)
