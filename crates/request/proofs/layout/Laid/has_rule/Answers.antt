-- `request::layout::Laid::has_rule` meets its contract.
-- Assumes nothing.
use Rattle.std.proofs.Common.{arith, refl, rules, ◌+◌, ◌*◌, ◌∙◌}
use Rattle.std.proofs.lemmas.Iterator.{YieldsList-from_range}
use Rattle.std.proofs.lemmas.Iterator.Search.{any_from_yields_List}
use Rattle.request.specs.declared.Mark.TheVariants.{Ru}
use Rattle.request.specs.Layout.{start_of}
use Rattle.request.specs.Tables.{code, leads}
use Rattle.request.proofs.Earliest.{any_listed}
use Rattle.request.proofs.layout.Laid.has_rule.Goals as goal

pub returns : goal.returns
returns c =
    let n = c.args.self.now.counts.rules in
    let test = λ (i : _). leads c.args.self.now.file.now (code c.args.left) (code c.args.right) (start_of c.args.self.now.counts Ru + i * 6) in
    any_from_yields_List test _ _ _ c.any.ensures.ran (YieldsList-from_range 0 n n refl (omega arith)) (λ x b q k. search rules) ∙ any_listed test n
