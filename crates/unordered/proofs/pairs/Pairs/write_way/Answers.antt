-- `unordered::pairs::Pairs::write_way` meets its contract: pair by pair, back to the first.
use Rattle.std.proofs.Common.{arith, ℕ, List, refl, sym, ◌∙◌}
use Rattle.unordered.proofs.Pushed.{by_at}
use Rattle.unordered.proofs.WayBack.{back_on, back_room, back_end}
use Rattle.unordered.proofs.pairs.Pairs.write_way.Goals as goal

pub push-requires-in-Some : goal.push-requires-in-Some
push-requires-in-Some c =
    let w = c.requires.2 in (omega arith, back_room (c.loop-j.invariant.1 w.0 w.1) (by_at c.as_slice-list.ensures.value c.loop-j.invariant.0 c.in-Some.is) w.2)

pub loop-j-smaller : goal.loop-j-smaller
loop-j-smaller c =
    let w = c.requires.2 in let l = c.loop-j in
    let by = by_at c.as_slice-list.ensures.value l.invariant.0 c.in-Some.is in
    omega (arith, (back_on (l.invariant.1 w.0 w.1) by).0, c.from-j.ensures)

pub loop-j-preserved : goal.loop-j-preserved
loop-j-preserved c =
    let w = c.requires.2 in let l = c.loop-j in
    let by = by_at c.as_slice-list.ensures.value l.invariant.0 c.in-Some.is in (
      omega (arith, (back_on (l.invariant.1 w.0 w.1) by).0, c.from-j.ensures, l.invariant.0),
      λ es t. rw (c.from-j.ensures, c.push-in-Some.ensures.items) (back_on (l.invariant.1 es t) by).1,
    )

pub returns : goal.returns
returns c = λ es t.
    back_end (c.loop-j.invariant.1 es t) (λ by q. c.in_default.not-Some by (sym (by_at c.as_slice-list.ensures.value c.loop-j.invariant.0 refl) ∙ q)) c.reverse.ensures
