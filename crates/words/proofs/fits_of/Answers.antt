-- `words::fits_of` meets its contract: node by node.
use Rattle.std.proofs.Common.{rules, ◌≡◌, ◌<◌, ◌&&◌, ℕ, List, ltb, length, get_or, take, replicate, refl, ap, ◌∙◌}
use mathlib.Core.Path.{subst⁻¹}
use lib.ListN.{length-set}
use Rattle.std.proofs.lemmas.List.{get_or_default}
use Rattle.std.proofs.Math.Seq.{take-length}
use Rattle.flags.specs.Flag.{flag}
use Rattle.graph.specs.declared.Label.TheVariants.{Fence}
use Rattle.graph.specs.declared.Node.{Node}
use Rattle.graph.specs.declared.Rule.{Rule}
use Rattle.graph.specs.Tests.{ruledb}
use Rattle.graph.specs.Limits.{most_nodes}
use Rattle.sets.specs.Whole.{whole, rows}
use Rattle.sets.proofs.Rows.{rows-set, rows_same, rows-length}
use Rattle.words.specs.Words.{label_at}
use Rattle.words.specs.Rows.{nearb}
use Rattle.words.proofs.Fill.{Rows, rows_start, row_filled, tested_is}
use Rattle.words.proofs.fits_of.Invariants.{tests}
use Rattle.words.proofs.fits_of.Goals as goal

pub loop-p-init : goal.loop-p-init
loop-p-init c = (refl, subst⁻¹ (Rows _ 0) (rows_same most_nodes _ ∙ ap (replicate most_nodes) c.none-words.ensures) (rows_start _))

pub loop-p-preserved : goal.loop-p-preserved
loop-p-preserved c =
    let p = c.loop-p.p in let ws = c.loop-p.words in let row = whole c.row_of.result in
    let nodes = c.args.nodes.now in let rules' = c.args.rules.now in let most = length c.args.rules.now in
    let room : p < length (rows ws) = rw (rows-length ws) (search rules) in
    let same = get_or_default nodes p _ (record { label = Fence }) c.loop-p-test.true in
    let close = tested_is (λ q. nearb (get_or nodes p _).label (label_at nodes q)) _ (whole c.labelled-close.result)
    (λ q h. let x = c.labelled-close.ensures.among q h in search (rules, x)) c.labelled-close.ensures.past in
    let filled : (q : ℕ) → flag row q ≡ tests nodes rules' p q = λ q.
    c.row_of.ensures q (ltb q (length nodes)) (label_at nodes q) (λ j h. c.rights_of-rights.ensures j q h) (close q)
    ∙ ap (λ (x : Node). ltb q (length nodes) && ruledb (take most rules') x.label (label_at nodes q)) same
    ∙ ap (λ (rs : List Rule). ltb q (length nodes) && ruledb rs (label_at nodes p) (label_at nodes q)) (take-length rules') in (
      length-set ws p c.row_of.result ∙ c.loop-p.invariant.0,
      subst⁻¹ (Rows (tests nodes rules') _) (rows-set ws p c.row_of.result)
          (row_filled (tests nodes rules') p row (rows ws) c.loop-p.invariant.1 room filled),
    )
