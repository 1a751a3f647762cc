-- `unordered::pairs::Pairs::start` meets its contract: one pair is the last of its node.
use Rattle.std.proofs.Common.{List, [], ◌∷◌, ◌++◌, None, ◌≡◌, refl, sym, ap, ◌∙◌, subst, set, replicate, Some}
use Rattle.graph.specs.Limits.{most_nodes}
use Rattle.unordered.specs.Pairs.{Chained}
use Rattle.unordered.specs.declared.pairs.Pair.{Pair}
use Rattle.unordered.proofs.Chained.{chained_one}
use Rattle.unordered.proofs.pairs.Pairs.start.Goals as goal

pub invariant_of-result : goal.invariant_of-result
invariant_of-result c =
    let p : Pair = record { node = c.args.a; by = None; prior = None } in
    let e : c.push.new.self.items ≡ p ∷ [] = c.push.ensures.items ∙ ap (λ (l : List Pair). l ++ p ∷ []) c.new-list.ensures in
    record { chained = subst (λ (l : List Pair). Chained l (set (replicate most_nodes None) c.args.a (Some 0))) (sym e) (chained_one p c.requires refl) }
