-- `words::rights_of` meets its contract: rule by rule.
use Rattle.std.proofs.Common.{rules, ◌<◌, ℕ, Bool, length, get_or, ◌∙◌}
use lib.ListN.{length-set}
use Rattle.graph.specs.Tests.{want_of}
use Rattle.sets.specs.Whole.{whole, rows}
use Rattle.sets.proofs.Rows.{rows-set, rows-length}
use Rattle.words.specs.Words.{label_at}
use Rattle.words.specs.Rows.{matchb, no_rule}
use Rattle.words.proofs.Fill.{tested_is}
use Rattle.words.proofs.Parts.{rights_more}
use Rattle.words.proofs.rights_of.Goals as goal

pub loop-i-preserved : goal.loop-i-preserved
loop-i-preserved c =
    let i = c.loop-i.i in let w = c.labelled.result in let rights = c.loop-i.rights in
    let room : i < length (rows rights) = rw (rows-length rights) (search rules) in
    let fits : ℕ → Bool = λ q. matchb (want_of (get_or c.args.rules.now i no_rule).right (label_at c.args.nodes.now q)) in (
      length-set rights i w ∙ c.loop-i.invariant.0,
      rw (rows-set rights i w) (rights_more c.args.nodes.now c.args.rules.now i (whole w) (rows rights) room
          (tested_is fits _ (whole w) (λ q h. let p = c.labelled.ensures.among q h in search (rules, p)) c.labelled.ensures.past) c.loop-i.invariant.1),
    )
