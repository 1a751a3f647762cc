-- `sets::lowest_from` meets its contract: in the word of that number, then word by word.
use Rattle.std.proofs.Common.{arith, ℕ, ◌≡◌, ◌%◌, ◌∙◌, sym, ap}
use Rattle.flags.specs.Flag.{less, above}
use Rattle.sets.proofs.Onward.{passed_word, in_word, ahead_at, ahead_all}
use Rattle.sets.proofs.lowest_from.Goals as goal

-- what is left of the word at k
is_left : (k x y : ℕ) {w v : ℕ} → v ≡ less x y → w ≡ above v (k % 64) → w ≡ above (less x y) (k % 64)
is_left k x y e f = f ∙ ap (λ (v : ℕ). above v (k % 64)) e

pub overflow_add-result : goal.overflow_add-result
overflow_add-result c =
    let a = c.args.a.now in let b = c.args.b.now in let k = c.loop-k.k in
    let within = in_word a b c.fits-a c.fits-b c.args.from k c.loop-k.invariant.0 c.loop-k.invariant.1 c.above-left.result c.in-Some.t
    (rw (← c.without.ensures) c.without.type_inv) c.above-left.type_inv (is_left _ _ _ c.without.ensures c.above-left.ensures) (sym c.lowest.ensures ∙ c.in-Some.is) in
    omega arith

pub returns-in-Some : goal.returns-in-Some
returns-in-Some c =
    let a = c.args.a.now in let b = c.args.b.now in let k = c.loop-k.k in
    ahead_at a b c.fits-a c.fits-b c.args.from k c.loop-k.invariant.0 c.loop-k.invariant.1 c.above-left.result c.in-Some.t
    (rw (← c.without.ensures) c.without.type_inv) c.above-left.type_inv (is_left _ _ _ c.without.ensures c.above-left.ensures) (sym c.lowest.ensures ∙ c.in-Some.is) c.loop-k-test.true

pub loop-k-preserved : goal.loop-k-preserved
loop-k-preserved c = (
  omega (arith, c.loop-k.invariant.0),
  passed_word c.args.a.now c.args.b.now c.fits-a c.fits-b c.args.from c.loop-k.k c.loop-k.invariant.0 c.loop-k.invariant.1 c.above-left.result
      (is_left _ _ _ c.without.ensures c.above-left.ensures) (sym c.lowest.ensures ∙ c.in_default.is),
)

pub returns : goal.returns
returns c =
    ahead_all c.args.a.now c.args.b.now c.fits-a c.fits-b c.args.from c.loop-k.k c.told-a
    (omega (arith, c.loop-k-test.false)) c.loop-k.invariant.1
