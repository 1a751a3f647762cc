-- `lightest::pack::unspent` meets its contract: weight by weight.
-- Assumes nothing.
use Rattle.std.proofs.Common.{sym, ◌∙◌, arith, below_more}
use Rattle.graph.specs.Limits.{most_edges}
use Rattle.lightest.proofs.Flags.{flags_at}
use Rattle.lightest.proofs.Mapped.{weight_at}
use Rattle.lightest.proofs.Residues.{spared_none, spared_has, spared_out}
use Rattle.lightest.proofs.pack.unspent.Goals as goal
use Rattle.lightest.proofs.pack.unspent.Goals.{then-not-has, else-not-has}

pub loop-e-init : goal.loop-e-init
loop-e-init c = record { spared = spared_none _ _; light = λ k h. absurd (omega arith) }

pub loop-e-preserved : goal.loop-e-preserved
loop-e-preserved c =
    let i = c.loop-e.invariant in
    let weighs = weight_at c.args.edges.now c.loop-e.e in
    let same = flags_at most_edges _ c.loop-e.e (omega (arith, c.loop-e-test.true, c.requires)) ∙ sym c.has.ensures in
    record {
      spared = elim c.if-not-has.branch [
        | then-not-has w ↦ rw (w.left-is, c.weight_of-weight.ensures, sym weighs) (spared_out _ _ _ _ i.spared (omega arith) (same ∙ w.if-not-has.true))
        | else-not-has w ↦ rw w.left-is (spared_has _ _ _ _ i.spared (same ∙ w.if-not-has.false))
      ];
      light = below_more _ _ i.light (omega (arith, weighs, c.weight_of-weight.ensures, c.weight_of-weight.type_inv));
    }
