-- `sets::size` meets its contract: the words are counted one after the other.
use Rattle.std.proofs.Common.{rules, arith, ◌≡◌, length, ◌∙◌, sym, ap}
use Rattle.sets.specs.Whole.{counted}
use Rattle.sets.proofs.Words.{whole_ones}
use Rattle.sets.proofs.size.Goals as goal

pub returns : goal.returns
returns c = let end : c.loop-w.w-index ≡ length c.args.s = search rules in
    (c.loop-w.invariant.0 ∙ ap (counted c.args.s) end ∙ sym (whole_ones c.args.s (λ i. search rules)), omega arith)
