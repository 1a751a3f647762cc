-- `words::row_of` meets its contract: rule by rule.
use Rattle.std.proofs.Common.{ℕ, Bool, [], get_or, sym, ap, ◌∙◌}
use Rattle.std.proofs.lemmas.List.{get_or_default}
use Rattle.flags.specs.Flag.{flag}
use Rattle.graph.specs.declared.Rule.{Rule}
use Rattle.graph.specs.Tests.{want_of}
use Rattle.sets.specs.Whole.{whole, rows}
use Rattle.sets.proofs.Rows.{row_at}
use Rattle.words.specs.Rows.{part, no_rule}
use Rattle.words.proofs.Parts.{row_none, row_more}
use Rattle.words.proofs.row_of.Goals as goal

pub loop-i-init : goal.loop-i-init
loop-i-init c = row_none (rows c.args.rights.now) c.args.rules.now c.args.l _ _ c.none-row.ensures

pub loop-i-preserved : goal.loop-i-preserved
loop-i-preserved c =
    let i = c.loop-i.i in
    let right = whole (get_or c.args.rights.now i []) in
    let fits : ℕ → Rule → Bool = λ q r. part (want_of r.left c.args.l) r.right (flag right q) (flag (whole c.args.close) q) in
    let same = get_or_default c.args.rules.now i _ no_rule c.loop-i-test.true in
    row_more (rows c.args.rights.now) _ _ _ _ _ _ _ _ c.loop-i-test.true (sym (row_at c.args.rights.now i))
    (λ q. c.fitted.ensures q ∙ ap (fits q) same) c.either-more.ensures c.loop-i.invariant
