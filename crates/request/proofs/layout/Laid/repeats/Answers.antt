-- `request::layout::Laid::repeats` meets its contract.
-- Assumes nothing.
use Rattle.std.proofs.Common.{arith, refl, rules, ◌+◌, ◌*◌, ◌∙◌}
use Rattle.std.proofs.lemmas.Iterator.{YieldsList-from_range}
use Rattle.std.proofs.lemmas.Iterator.Search.{any_from_yields_List}
use Rattle.request.specs.Layout.{start_of, width}
use Rattle.request.specs.Tables.{repeated, same_pair}
use Rattle.request.proofs.Earliest.{any_listed}
use Rattle.request.proofs.layout.Laid.repeats.Goals as goal

pub returns : goal.returns
unfolding repeated
returns c =
    let i = c.args.i in
    let start = start_of c.args.self.now.counts c.args.mark in
    let z = width c.args.mark in
    let test = λ (j : _). same_pair c.args.self.now.file.now (start + j * z) (start + i * z) in
    any_from_yields_List test _ _ _ c.any.ensures.ran (YieldsList-from_range 0 i i refl (omega arith)) (λ x b q k. search (rules, c.at-at.ensures.offset)) ∙ any_listed test i
