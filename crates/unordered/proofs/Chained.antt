-- The pairs of each node, one after the other, while pairs are added.
-- Assumes nothing.
use mathlib.Core.List.{List, [], ◌∷◌, ◌++◌}
use mathlib.Core.Path.{◌≡◌, refl, sym, subst, ◌∙◌}
use Prim.Native.Nat.{ℕ, ◌+◌, ◌<◌, ◌≤◌}
use native.Mathlib.Decide.{ℕ_discrete}
use native.Mathlib.Omega.{arith}
use lib.ListN.{length, get_or, set, replicate, get_or-replicate}
use lib.Seq.{get_or-set_same, get_or-set_other}
use borrow.Author.Count.{below_more}
use Rattle.std.specs.Prelude.{Option, Some, None}
use Rattle.graph.specs.Limits.{most_nodes}
use Rattle.unordered.specs.Pairs.{nodes, priors, up_to, LastOf, Chained}
use Rattle.unordered.specs.declared.pairs.Pair.{Pair}
use Rattle.unordered.proofs.Pushed.{pushed_same, pushed_here, pushed_long}

-- of the first n of two lists that are the same the last is the same
last_kept : (nodes nodes' : List ℕ) {y m : ℕ} {last : Option ℕ} → ((j : ℕ) → j < m → get_or nodes' j 0 ≡ get_or nodes j 0)
    → LastOf nodes y m last → LastOf nodes' y m last
last_kept nodes nodes' {m = m} s l = record {
  high = l.high;
  here = λ j e. let h : j + 1 ≤ m = subst (λ (x : Option ℕ). up_to x ≤ m) e l.high in s j (omega (arith, h)) ∙ l.here j e;
  all = λ j b e. l.all j b (sym (s j b) ∙ e);
}

pub chained_none : Chained [] (replicate most_nodes None)
chained_none = record { before = λ j h. absurd (omega (arith, h)); tops = λ y h. rw (get_or-replicate {A = Option ℕ} most_nodes y None None h) none }
  where
    none : {y : ℕ} → LastOf [] y 0 None
    none = record { high = omega arith; here = λ j e. absurd (cc); all = λ j h e. absurd (omega (arith, h)) }

pub chained_push : {ps : List Pair} {last : List (Option ℕ)} (c : Chained ps last) (p : Pair) → p.node < most_nodes → length last ≡ most_nodes
    → p.prior ≡ get_or last p.node None → Chained (ps ++ p ∷ []) (set last p.node (Some (length ps)))
chained_push {ps} {last} c p low room prior = record {
  before = λ j h. below_more (λ j. LastOf (nodes (ps ++ p ∷ [])) (get_or (nodes (ps ++ p ∷ [])) j 0) j (get_or (priors (ps ++ p ∷ [])) j None)) (length ps)
      (λ j h. rw (same j h, pushed_same (λ (q : Pair). q.prior) None ps p j h) (last_kept (nodes ps) (nodes (ps ++ p ∷ [])) (λ i b. same i (omega (arith, b, h))) (c.before j h)))
      (rw (here, pushed_here (λ (q : Pair). q.prior) None ps p ∙ prior) (last_kept (nodes ps) (nodes (ps ++ p ∷ [])) same (c.tops p.node low)))
      j (omega (arith, h, pushed_long ps p));
  tops = λ y h. rw pushed_long (tops y h (ℕ_discrete y p.node));
}
  where
    same : (j : ℕ) → j < length ps → get_or (nodes (ps ++ p ∷ [])) j 0 ≡ get_or (nodes ps) j 0
    same = pushed_same (λ (q : Pair). q.node) 0 ps p

    here : get_or (nodes (ps ++ p ∷ [])) (length ps) 0 ≡ p.node
    here = pushed_here (λ (q : Pair). q.node) 0 ps p

    tops : (y : ℕ) → y < most_nodes → Dec (y ≡ p.node) → LastOf (nodes (ps ++ p ∷ [])) y (length ps + 1) (get_or (set last p.node (Some (length ps))) y None)
    tops y h (yes e) = rw (e, get_or-set_same last p.node (Some (length ps)) None (omega (arith, room, low))) record {
      high = omega arith;
      here = λ j z. let q : length ps ≡ j = cc in rw q at here;
      all = λ j b q. omega (arith, b);
    }
    tops y h (no e) = rw (get_or-set_other last p.node y (Some (length ps)) None e) record {
      high = omega (arith, l.high);
      here = l.here;
      all = below_more (λ j. get_or (nodes (ps ++ p ∷ [])) j 0 ≡ y → j < up_to (get_or last y None)) (length ps) l.all (λ q. absurd (e (sym q ∙ here)));
    }
      where
        l : LastOf (nodes (ps ++ p ∷ [])) y (length ps) (get_or last y None)
        l = last_kept (nodes ps) (nodes (ps ++ p ∷ [])) same (c.tops y h)

pub chained_one : (p : Pair) → p.node < most_nodes → p.prior ≡ None → Chained (p ∷ []) (set (replicate most_nodes None) p.node (Some 0))
chained_one p low e = chained_push chained_none p low refl (e ∙ sym (get_or-replicate {A = Option ℕ} most_nodes p.node None None low))
