-- `request::layout::Laid::first_failing` meets its contract.
-- Assumes nothing.
use Rattle.std.proofs.Common.{rules, ◌≡◌, true, false}
use Rattle.std.proofs.lemmas.Iterator.{first_from_Range}
use Rattle.request.specs.Tables.{fails_at}
use Rattle.request.proofs.Cases.{first_fails}
use Rattle.request.proofs.layout.Laid.first_failing.Goals as goal

pub returns : goal.returns
returns c =
    let test = fails_at c.args.self.now.file.now c.args.self.now.counts c.args.check in
    first_fails _ _ _ _ c.sure.ensures c.count.ensures
    (first_from_Range _ _ _ _ (λ i. test i ≡ true) (λ i. test i ≡ false) c.find.ensures.ran (λ x q k. search rules) (λ x q k. search rules))
