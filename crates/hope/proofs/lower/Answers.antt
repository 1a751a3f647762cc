-- `hope::lower` meets its contract: node by node.
use Rattle.std.proofs.Common.{arith, ◌≡◌, get_or, [], sym, ◌∙◌}
use Rattle.graph.proofs.Splits.{true_false}
use Rattle.sets.specs.Whole.{whole, rows}
use Rattle.sets.proofs.Rows.{row_at, rows-set}
use Rattle.sets.proofs.Leading.{put_room}
use Rattle.hope.proofs.Fallen.{lowered_none, lowered_same, lowered_set, fallen, lowered_all}
use Rattle.hope.proofs.lower.Goals as goal
use Rattle.hope.proofs.lower.Goals.{then-not-has, else-not-has+then-not-within, else-not-has+else-not-within}

pub loop-y-init : goal.loop-y-init
loop-y-init c = rw (c.none-fell.ensures, c.none-done.ensures) (lowered_none (rows c.args.least.now) (whole c.args.met.now) (whole c.args.m))

pub loop-y-smaller : goal.loop-y-smaller
loop-y-smaller c =
    omega (arith, put_room _ _ _ c.in-Some.ensures.new c.put_in-in-Some.ensures.0 c.put_in-in-Some.ensures.1)

pub loop-y-preserved : goal.loop-y-preserved
loop-y-preserved c =
    let y = c.in-Some.y in let least = c.loop-y.least in let m = whole c.args.m in
    let done = c.put_in-in-Some.ensures.0 in
    let row : whole (get_or least y []) ≡ get_or (rows least) y 0 = sym (row_at least y) in
    elim c.if-not-has.branch [
      | then-not-has w ↦ rw (w.least-is, w.fell-is, rows-set least y c.args.m, w.put_in.ensures.0, done)
          (lowered_set y m (λ k p. p) (λ p. true_false p (sym c.has.ensures ∙ w.if-not-has.true)) c.loop-y.invariant)
      | else-not-has+then-not-within w ↦
          let f = fallen _ m _ w.both.ensures in
          rw (w.least-is, w.fell-is, rows-set least y w.both.result, w.put_in-then-not-within.ensures.0, done)
          (lowered_set y (whole w.both.result) f.1 (λ p. rw (← row) f.0) c.loop-y.invariant)
      | else-not-has+else-not-within w ↦ rw (w.least-is, w.fell-is, done)
          (lowered_same y (sym c.has.ensures ∙ w.if-not-has.false) (rw (← row) (w.within.ensures.0 w.if-not-within.false)) c.loop-y.invariant)
    ]

pub returns : goal.returns
returns c = lowered_all _ c.in_default.ensures c.loop-y.invariant
