-- `words::labelled` meets its contract: node by node.
use Rattle.std.proofs.Common.{ℕ, Bool, ap, subst, ◌∙◌}
use Rattle.std.proofs.lemmas.List.{get_or_default}
use Rattle.graph.specs.declared.Label.TheVariants.{Fence}
use Rattle.graph.specs.declared.Node.{Node}
use Rattle.sets.specs.Whole.{whole}
use Rattle.words.specs.Words.{label_at}
use Rattle.words.proofs.Fill.{tested_none, tested_put, tested_skip}
use Rattle.words.proofs.labelled.Goals as goal
use Rattle.words.proofs.labelled.Goals.{then-test, else-test}

pub loop-q-init : goal.loop-q-init
loop-q-init g c = tested_none _ _ c.none-set.ensures

pub loop-q-preserved : goal.loop-q-preserved
loop-q-preserved g c =
    let q = c.loop-q.q in let b = c.test.result in
    let R = λ (k : ℕ) (x : Bool). g.F.Fn.post c.args.test (label_at c.args.nodes.now k, tt) x in
    let same = get_or_default c.args.nodes.now q _ (record { label = Fence }) c.loop-q-test.true in
    let at : R q b = subst (λ (n : Node). g.F.Fn.post c.args.test (n.label, tt) b) same c.test.ensures in
    elim c.if-test.branch [
      | then-test w ↦ tested_put R q _ _ c.loop-q.invariant (ap whole w.set-is ∙ w.put_in.ensures.0) (subst (R q) w.if-test.true at)
      | else-test w ↦ tested_skip R q _ _ c.loop-q.invariant (ap whole w.set-is) (subst (R q) w.if-test.false at)
    ]
