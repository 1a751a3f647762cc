-- A cut with one edge more, and the empty cut.
-- Assumes nothing.
use mathlib.Core.Bool.{Bool, false, true}
use mathlib.Core.List.{List}
use mathlib.Core.Logic.{◌⊎◌, inl, inr, ⊎_elim}
use mathlib.Core.Path.{◌∙◌, ◌≡◌, ap, refl, sym}
use Prim.Native.Nat.{◌+◌, ◌*◌, ◌<◌, ◌≤◌, ℕ}
use native.Mathlib.Omega.{arith}
use lib.ListN.{get_or, length, length-replicate, length-set, replicate, set}
use lib.Seq.{get_or-set_other, get_or-set_same}
use Rattle.lightest.specs.Made.{Cut, Made, cut_at, cut_by, most_weight}
use Rattle.lightest.specs.Search.{Addable}
use Rattle.lightest.specs.Sets.{Edges, Has, PartOf, weigh}
use Rattle.graph.specs.Cut.{total}
use Rattle.graph.specs.Limits.{most_edges}
use Rattle.graph.proofs.Says.{decide, says_eq}
use Rattle.graph.proofs.Splits.{true_false}
use Rattle.lightest.proofs.Weights.{none_has, none_rising, total-most, total-part, total-set}

-- one flag is set, the others are as they were
set_cases : (s : List Bool) (e i : ℕ) → (i ≡ e) ⊎ (get_or (set s e true) i false ≡ get_or s i false)
set_cases s e i = ⊎_elim inl (λ n. inr (get_or-set_other s e i true false n)) (decide (says_eq i e))

set_edges : (ws : List ℕ) (s : List Bool) (e : ℕ) → Edges ws s → e < length ws → 1 ≤ get_or ws e 0 → Edges ws (set s e true)
set_edges ws s e es l w = record {
  long = length-set s e true ∙ es.long;
  known = λ i h. ⊎_elim (λ p. rw p (l, w)) (λ q. es.known i (sym q ∙ h)) (set_cases s e i);
}

part-set : (s t : List Bool) (e : ℕ) → PartOf s t → Has t e → PartOf (set s e true) t
part-set s t e f h i k = ⊎_elim (λ p. rw p h) (λ q. f i (sym q ∙ k)) (set_cases s e i)

module _ (ws : List ℕ) (few : length ws ≤ most_edges) (s : Cut) (ms : Made ws s) (e : ℕ) (adds : Addable ws s.chosen e) where
  long : e < length s.chosen
  long = omega (arith, few, adds.0, ms.edges.long)

  with_it : weigh ws (set s.chosen e true) ≡ s.weight + get_or ws e 0
  with_it = omega (arith, ms.sum, total-set (λ i. get_or ws i 0) 0 s.chosen e e (omega arith) long adds.2)

  pub grown : (s' : Cut) (w : ℕ) → w ≡ get_or ws e 0 → s.weight + w < most_weight → s'.chosen ≡ set s.chosen e true → s'.weight ≡ s.weight + w → Made ws s'
  grown s' w q lt c v = record {
    edges = rw c (set_edges ws s.chosen e ms.edges adds.0 adds.1);
    sum = ap (weigh ws) c ∙ with_it ∙ omega arith;
    small = omega arith;
  }

  -- what has the edges of s and e has those of s with e
  pub grown_part : (s' : Cut) → s'.chosen ≡ set s.chosen e true → (t : List Bool) → PartOf s.chosen t → Has t e → PartOf s'.chosen t
  grown_part s' c t g h = rw c (part-set s.chosen t e g h)

  -- and weighs at least as much
  pub grown_heavy : (t : List Bool) → Edges ws t → PartOf s.chosen t → Has t e → s.weight + get_or ws e 0 ≤ weigh ws t
  grown_heavy t et g h =
      let l = length-set s.chosen e true ∙ ms.edges.long ∙ sym et.long in
      omega (arith, with_it, total-part (λ i. get_or ws i 0) 0 (set s.chosen e true) t l (part-set s.chosen t e g h))

  -- nor more than all edges can
  pub grown_small : ((i : ℕ) → get_or ws i 0 < 65536) → s.weight + get_or ws e 0 ≤ most_edges * 65535
  grown_small g =
      let t = set s.chosen e true in
      omega (arith, with_it, total-most (λ i. get_or ws i 0) 0 t g, length-set s.chosen e true, ms.edges.long)

pub part-more : (s t : List Bool) (e : ℕ) → e < length s → PartOf (set s e true) t → PartOf s t
part-more s t e l f i h = f i (⊎_elim (λ p. rw p (get_or-set_same s e true false l)) (λ q. q ∙ h) (set_cases s e i))

pub made_none : (ws : List ℕ) (c : Cut) → (c.weight ≡ 0) × (c.chosen ≡ replicate most_edges false) → Made ws c
made_none ws c (w, e) = record {
  edges = record {
    long = ap length e ∙ length-replicate most_edges false;
    known = λ i h. true_false h (none_has most_edges e i);
  };
  sum = ap (weigh ws) e ∙ ap (total (λ i. get_or ws i 0)) (none_rising 0 most_edges) ∙ sym w;
  small = omega arith;
}

-- no cut weighs more than all edges can
pub made_most : (ws : List ℕ) (c : Cut) → Made ws c → ((i : ℕ) → get_or ws i 0 < 65536) → c.weight ≤ most_edges * 65535
made_most ws c m g = omega (arith, m.sum, total-most (λ i. get_or ws i 0) 0 c.chosen g, m.edges.long)

-- the weight of a cut is what its edges weigh
pub made_by : (ws words : List ℕ) (w : ℕ) → Made ws (cut_at words w) → Made ws (cut_by ws words)
made_by ws words w m = record { edges = m.edges; sum = refl; small = omega (arith, m.sum, m.small) }
