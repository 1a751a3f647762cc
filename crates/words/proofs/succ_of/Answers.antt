-- `words::succ_of` meets its contract: edge by edge.
use Rattle.std.proofs.Common.{◌<◌, length, replicate, ap, refl, sym, ◌∙◌}
use mathlib.Core.Path.{subst⁻¹}
use lib.ListN.{length-set}
use Rattle.graph.specs.Limits.{most_nodes}
use Rattle.sets.specs.Whole.{rows}
use Rattle.sets.proofs.Rows.{rows-put, rows_same, rows-length}
use Rattle.words.proofs.Fill.{LedBy, led_none, led_put}
use Rattle.words.proofs.succ_of.Invariants.{Leads}
use Rattle.words.proofs.succ_of.Goals as goal

pub loop-edge-init : goal.loop-edge-init
loop-edge-init c =
    (refl, subst⁻¹ (LedBy (Leads c.args.edges.now) 0) (rows_same most_nodes _ ∙ ap (replicate most_nodes) c.none-words.ensures) (led_none (Leads c.args.edges.now)))

pub loop-edge-preserved : goal.loop-edge-preserved
loop-edge-preserved c =
    let i = c.loop-edge.edge-index in let words = c.loop-edge.words in
    let from = c.from-from.result in let to = c.from-to.result in
    let is-from = c.from-from.ensures in let is-to = c.from-to.ensures in
    let ends = c.requires.1 i c.loop-edge-test.true in
    let room : from < length (rows words) = rw (rows-length words, c.loop-edge.invariant.0, is-from) ends.0 in (
      length-set words _ _ ∙ c.loop-edge.invariant.0,
      subst⁻¹ (LedBy (Leads c.args.edges.now) _) (rows-put words from to c.put_in.new.s c.put_in.ensures.0)
          (led_put (Leads c.args.edges.now) i (rows words) from to c.loop-edge.invariant.1 room
          (c.loop-edge-test.true, sym is-from, sym is-to) (λ p q g. (sym g.1 ∙ sym is-from, sym g.2 ∙ sym is-to))),
    )
