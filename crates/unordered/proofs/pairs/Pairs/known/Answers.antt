-- `unordered::pairs::Pairs::known` meets its contract: the pairs of one node, from the last down.
use Rattle.std.proofs.Common.{◌≡◌, ◌<◌, ℕ, get_or, refl, ap, ◌∙◌}
use Rattle.flags.specs.Flag.{flag}
use Rattle.graph.proofs.Splits.{true_false}
use Rattle.sets.specs.Whole.{whole, rows}
use Rattle.sets.proofs.Rows.{row_at}
use Rattle.unordered.specs.Pairs.{up_to, no_pair}
use Rattle.unordered.specs.declared.pairs.Pair.{Pair}
use Rattle.unordered.proofs.Looked.{Looked, looked_at, looked_on}
use Rattle.unordered.proofs.Pushed.{prior_at}
use Rattle.unordered.proofs.pairs.Pairs.known.Goals as goal

-- the pair before, once this one is passed by
on : (c : goal.After-rest-in-Some-1) → let s = c.args.self.now in let next = (get_or c.as_slice-list.result.now c.from-j.result no_pair).prior in
    (up_to next < up_to c.loop-rest.rest) × Looked s.list.items (rows c.args.kept.now) c.args.y (whole c.args.w.now) next
on c =
    let s = c.args.self.now in let j = c.in-Some.j in let l = c.loop-rest.invariant in
    let list : get_or c.as_slice-list.result.now c.from-j.result no_pair ≡ get_or c.as_slice-list.result.now j no_pair = rw c.from-j.ensures refl in
    looked_on s.chained l c.in-Some.is
    (λ i. true_false (c.within.ensures.1 (λ x q. i x (ap (λ (z : ℕ). flag z x) (row_at c.args.kept.now j) ∙ rw c.from-j.ensures at q))) c.if-within.false)
    (ap (λ (q : Pair). q.prior) list ∙ prior_at c.as_slice-list.ensures.value (looked_at l c.in-Some.is))

pub loop-rest-smaller : goal.loop-rest-smaller
loop-rest-smaller c = (on c).0

pub loop-rest-preserved : goal.loop-rest-preserved
loop-rest-preserved c = (on c).1
