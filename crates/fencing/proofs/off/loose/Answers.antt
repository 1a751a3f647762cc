-- `fencing::off::loose` meets its contract: one case for each thing that a step of strip looks at.
use Rattle.std.proofs.Common.{◌≡◌, None, Some, arith, sym, ◌∙◌}
use Rattle.fencing.proofs.Tops.{none_fence, none_end, none_before, none_second, none_start, label_read, loose_there, nothing, read}
use Rattle.fencing.proofs.off.loose.Goals as goal

pub returns-in_default : goal.returns-in_default
returns-in_default c =
    read c.args.g.now None c.len.ensures.value c.in_ok-v.ensures c.as_slice-edges.ensures.value c.in_ok-m.ensures
    (λ h l. none_fence h l (λ e. c.in_default.not-Fence (sym (label_read c.args.g.now h c.deref.ensures.0 _) ∙ e)))

pub returns-in_err-i : goal.returns-in_err-i
returns-in_err-i c =
    rw c.from_residual-in_err-i.ensures
    (read c.args.g.now None c.len.ensures.value c.in_ok-v.ensures c.as_slice-edges.ensures.value c.in_ok-m.ensures
    (λ h l. none_end h l c.in_err-i.ensures))

pub returns-then-i-m : goal.returns-then-i-m
returns-then-i-m c =
    read c.args.g.now None c.len.ensures.value c.in_ok-v.ensures c.as_slice-edges.ensures.value c.in_ok-m.ensures
    (λ h l. none_before h l c.in_ok-i.ensures c.if-i-m.true)

pub returns-then-is_some : goal.returns-then-is_some
returns-then-is_some c =
    read c.args.g.now None c.len.ensures.value c.in_ok-v.ensures c.as_slice-edges.ensures.value c.in_ok-m.ensures
    (λ h l. none_second h l c.next_end-2.result c.in_ok-i.ensures c.next_end-2.ensures (sym c.is_some.ensures ∙ c.if-is_some.true))

pub returns-then-ne : goal.returns-then-ne
returns-then-ne c =
    read c.args.g.now None c.len.ensures.value c.in_ok-v.ensures c.as_slice-edges.ensures.value c.in_ok-m.ensures
    (λ h l. none_start h l c.first_start.result c.first_start.ensures (λ e. grind (arith, c.ne.ensures, c.if-ne.true)))

pub returns : goal.returns
returns c =
    let last : c.first_start.result ≡ Some c.in_ok-m.m = grind (arith, c.ne.ensures, c.if-ne.false) in
    read c.args.g.now (Some c.in_ok-i.i) c.len.ensures.value c.in_ok-v.ensures c.as_slice-edges.ensures.value c.in_ok-m.ensures
    (λ h l. loose_there h l (label_read c.args.g.now h c.deref.ensures.0 _ ∙ c.in-Fence.is) c.in_ok-i.ensures c.if-i-m.false
    (rw (nothing c.next_end-2.result (sym c.is_some.ensures ∙ c.if-is_some.false)) at c.next_end-2.ensures) (rw last at c.first_start.ensures)
    (omega (arith, c.if-into-out_of.false)) (rw (nothing c.first_pair.result (sym c.is_some-2.ensures ∙ c.if-is_some-2.false)) at c.first_pair.ensures))
