-- `walked::left_of` meets its contract: edge by edge.
-- Assumes nothing.
use Rattle.std.proofs.Common.{rules, arith, ◌<◌, length, sym, ◌∙◌}
use mathlib.Core.Path.{subst⁻¹}
use lib.ListN.{length-set}
use Rattle.route.specs.Way.{starts, ends}
use Rattle.route.proofs.Listed.{start_of, end_of, starts_all}
use Rattle.sets.specs.Whole.{rows}
use Rattle.sets.proofs.Rows.{rows-put, rows-length}
use Rattle.walked.proofs.Fills.{Fills, fills_none, fills_skip, fills_put}
use Rattle.walked.proofs.left_of.Goals as goal
use Rattle.walked.proofs.left_of.Goals.{then-left-e-ne0, else-left-e-ne0}

pub loop-e-init : goal.loop-e-init
loop-e-init c =
    let from = starts c.args.edges.now in let to = ends c.args.edges.now in let left = c.args.left.now in
    (search rules, subst⁻¹ (Fills from to left 0) c.requires.empty (fills_none from to left))

pub loop-e-preserved : goal.loop-e-preserved
loop-e-preserved c =
    let es = c.args.edges.now in let from = starts es in let to = ends es in let left = c.args.left.now in
    let e = c.loop-e.e in let succ = c.loop-e.succ in let i = c.loop-e.invariant in
    elim c.if-left-e-ne0.branch [
      | then-left-e-ne0 w ↦
          let p = w.from-from.result in let q = w.from-to.result in
          let h : e < length from = omega (arith, c.loop-e-test.true, starts_all es) in
          let is-from = w.from-from.ensures ∙ sym (start_of es e) in
          let room : p < length (rows succ) = omega (arith, rows-length succ, i.0, is-from, c.requires.net.tail e h) in
          let put = fills_put from to left e (rows succ) p q i.1 h (omega (arith, w.if-left-e-ne0.true)) is-from (w.from-to.ensures ∙ sym (end_of es e)) room in
          rw w.succ-is (length-set succ _ _ ∙ i.0, subst⁻¹ (Fills from to left _) (rows-put succ p q w.put_in.new.s w.put_in.ensures.0) put)
      | else-left-e-ne0 w ↦ rw w.succ-is (i.0, fills_skip from to left e (rows succ) i.1 (omega (arith, w.if-left-e-ne0.false)))
    ]
