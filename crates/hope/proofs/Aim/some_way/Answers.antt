-- `hope::Aim::some_way` meets its contract: pair by pair, way by way.
use Rattle.std.proofs.Common.{arith, ◌<◌, length, length-append, refl, sym, ◌∙◌, inl, inr}
use Rattle.std.proofs.lemmas.Bool.Decides.{nat_tests}
use Rattle.sets.specs.Whole.{rows}
use Rattle.sets.proofs.Rows.{row_at, rows-set, rows-length}
use Rattle.sets.proofs.Leading.{put_room}
use Rattle.hope.specs.Hope.{most_pairs}
use Rattle.hope.proofs.Sifted.{sifted_start, sifted_all, passing_on, passing_add}
use Rattle.hope.proofs.Aim.some_way.Goals as goal
use Rattle.hope.proofs.Aim.some_way.Goals.{then-not-has+else-y-self+then-not-known+else-is_full, then-not-has+else-y-self+else-not-known, else-not-has}

pub loop-i-init : goal.loop-i-init
loop-i-init c =
    let kept = c.args.kept.now in
    rw (c.push.ensures.items, c.new-nodes.ensures)
    (sifted_start (rows kept) (rows-length kept ∙ c.told-kept) refl (rows-set kept 0 c.args.trail.now.after) c.requires)

pub loop-y-init : goal.loop-y-init
loop-y-init c = record {
  within = omega (arith, c.loop-i-test.true, c.len.ensures.value);
  onto = rw c.deref.ensures.0 (sym (row_at c.args.self.now.succ.now _));
  ordered = sym (row_at c.loop-i.kept c.loop-i.i);
  sifted = c.loop-i.invariant;
}

pub loop-y-smaller : goal.loop-y-smaller
loop-y-smaller c = omega (arith, put_room _ _ _ c.in-Some.ensures.new c.put_in.ensures.0 c.put_in.ensures.1)

pub loop-y-preserved : goal.loop-y-preserved
loop-y-preserved c =
    let g = c.loop-y.invariant in
    let w = c.marked-w.ensures in let more = c.put_in.ensures.0 in
    elim c.if-not-has.branch [
      | then-not-has+else-y-self+then-not-known+else-is_full a ↦
          let n = length c.loop-y.nodes.items in
          let free : n < most_pairs = grind (arith, nat_tests) in
          rw (a.kept-is, a.nodes-is, a.len-then-not-known.ensures.value, a.push-then-not-known.ensures.items, length-append, rows-set c.loop-y.kept n c.marked-w.result)
          (passing_add g w more a.if-y-self.false free c.in-Some.ensures.node)
      | then-not-has+else-y-self+else-not-known a ↦
          rw (a.kept-is, a.nodes-is)
          (passing_on g w more (inr (a.if-y-self.false, rw a.deref-then-not-has.ensures.0 at (a.known.ensures a.if-not-known.false))))
      | else-not-has a ↦ rw (a.kept-is, a.nodes-is) (passing_on g w more (inl (sym c.has.ensures ∙ a.if-not-has.false)))
    ]

pub returns : goal.returns
returns c = λ e. sifted_all c.loop-i.invariant (omega (arith, c.loop-i-test.false, c.len.ensures.value))
