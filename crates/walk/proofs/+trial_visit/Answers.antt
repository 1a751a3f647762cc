-- `walk::visit` and `walk::trial` meet their contracts: each on the other's; a node more is visited each time, and what was lent comes back.
use Rattle.std.proofs.Common.{arith, ℕ, List, ◌≡◌, ◌-◌, ◌≤◌, false, length, sym, ◌∙◌}
use Rattle.std.specs.Int.Count.{ones}
use Rattle.flags.specs.Flag.{flag, put}
use Rattle.graph.specs.Limits.{most_nodes}
use Rattle.sets.specs.Whole.{most}
use Rattle.sets.proofs.Leading.{put_room}
use Rattle.walk.proofs.Lent.{back_as, back_none, back_then, no_way, seen_from}
use Rattle.walk.proofs.Tried.{taken, not_taken, all_tried}
use Rattle.walk.proofs.Visited.{Entered, open_end, ordered_end, gone_on, taken_back}
use Rattle.walk.proofs.+trial_visit.Goals as goal

pub trial-returns-then-hopeless : goal.trial-returns-then-hopeless
trial-returns-then-hopeless t c = no_way (c.hopeless.ensures c.if-hopeless.true) back_none

pub trial-returns : goal.trial-returns
trial-returns t c =
    let inv = c.loop-k.invariant in
    seen_from inv.0 (no_way (all_tried c.args.aim.now.succ.now inv.1 c.in_default.ensures) back_none)

pub trial-returns-then-visit : goal.trial-returns-then-visit
trial-returns-then-visit t c =
    let inv = c.loop-k.invariant in
    seen_from inv.0 (taken c.args.aim.now.succ.now inv.1 c.in-Some.k c.in-Some.ensures c.visit.ensures c.if-visit.true)

pub trial-returns-then-lost : goal.trial-returns-then-lost
trial-returns-then-lost t c =
    seen_from (back_then c.loop-k.invariant.0 (back_as c.if-visit.false c.visit.ensures.back)) (no_way (c.lost.ensures c.if-lost.true) back_none)

pub trial-loop-k-preserved : goal.trial-loop-k-preserved
trial-loop-k-preserved t c =
    let inv = c.loop-k.invariant in (
      back_then inv.0 (back_as c.if-visit.false c.visit.ensures.back),
      not_taken c.args.aim.now.succ.now inv.1 c.in-Some.k c.in-Some.ensures c.visit.ensures _ (omega arith) c.if-visit.false,
    )

-- the route has one node more now, and there was room for it
entered : {visited v more n : ℕ} (nodes : List ℕ) → flag visited v ≡ false → length nodes ≡ most_nodes
    → (more ≡ put visited v) × (ones more ≤ most) → (n ≡ ones more) × (n ≤ most) → Entered visited v nodes more (n - 1)
entered nodes new long (on, few) (size, _) =
    let room = put_room _ _ _ new on few in
    record { new = new; on = on; count = room.0; free = room.1; last = omega (arith, size, room.0); long = long }

pub visit-overflow_sub-nodes : goal.visit-overflow_sub-nodes
visit-overflow_sub-nodes t c =
    let e = entered c.args.nodes.now c.requires.1 c.told-nodes c.put_in.ensures c.size-n.ensures in
    omega (arith, c.size-n.ensures.0, e.count)

pub visit-returns-then-not-has : goal.visit-returns-then-not-has
visit-returns-then-not-has t c =
    let e = entered c.args.nodes.now c.requires.1 c.told-nodes c.put_in.ensures c.size-n.ensures in
    open_end e c.if-v-aim.true (sym c.has.ensures ∙ c.if-not-has.true)

pub visit-returns-then-v-aim : goal.visit-returns-then-v-aim
visit-returns-then-v-aim t c =
    let e = entered c.args.nodes.now c.requires.1 c.told-nodes c.put_in.ensures c.size-n.ensures in
    ordered_end e c.if-v-aim.true (sym c.has.ensures ∙ c.if-not-has.false) c.take_out.ensures

pub visit-trial-requires : goal.visit-trial-requires
visit-trial-requires t c =
    let e = entered c.args.nodes.now c.requires.1 c.told-nodes c.put_in.ensures c.size-n.ensures in
    (omega (arith, c.decreases, e.count, e.free), c.requires.0)

pub visit-returns-then-trial : goal.visit-returns-then-trial
visit-returns-then-trial t c =
    let e = entered c.args.nodes.now c.requires.1 c.told-nodes c.put_in.ensures c.size-n.ensures in
    gone_on e c.if-v-aim.false c.mark_on.ensures c.trial.ensures c.if-trial.true

pub visit-returns : goal.visit-returns
visit-returns t c =
    let e = entered c.args.nodes.now c.requires.1 c.told-nodes c.put_in.ensures c.size-n.ensures in
    taken_back e c.if-v-aim.false c.mark_on.ensures c.trial.ensures c.if-trial.false c.take_out-2.ensures
