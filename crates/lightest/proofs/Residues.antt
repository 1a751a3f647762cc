-- What is left of the weights: unspent at first, then less along a route.
-- Assumes nothing.
use mathlib.Core.Bool.{Bool, true, false}
use mathlib.Core.List.{List}
use mathlib.Core.Logic.{◌⊎◌, inl, inr, ⊎_elim, ◌≢◌}
use mathlib.Core.Path.{◌≡◌, refl, sym, ap, subst, ◌∙◌}
use Prim.Native.Nat.{ℕ, ◌+◌, ◌<◌, ◌≤◌}
use native.Mathlib.Omega.{arith}
use lib.ListN.{length, get_or, set, length-set, replicate}
use lib.Seq.{get_or-set_same, get_or-set_other}
use borrow.Author.Count.{below_more}
use Rattle.lightest.specs.Search.{Addable, Missed, Tightest}
use Rattle.graph.specs.Limits.{most_edges}
use Rattle.graph.proofs.Splits.{true_false}
use Rattle.graph.proofs.Says.{decide, says_eq}
use Rattle.lightest.proofs.Weights.{replicate_at}

-- ---- what is unspent, from the first e weights

pub record Spared (ws : List ℕ) (s : List Bool) (l : List ℕ) (e : ℕ) : Type 0 where
  pub long : length l ≡ most_edges
  pub none : (k : ℕ) → get_or s k false ≡ true → get_or l k 0 ≡ 0
  pub low : (k : ℕ) → get_or l k 0 ≤ get_or ws k 0
  pub full : (k : ℕ) → k < e → get_or s k false ≡ false → get_or l k 0 ≡ get_or ws k 0

module _ (ws : List ℕ) (s : List Bool) where
  pub spared_none : Spared ws s (replicate most_edges 0) 0
  spared_none = record {
    long = refl;
    none = λ k h. replicate_at 0 most_edges k;
    low = λ k. omega (arith, replicate_at {A = ℕ} 0 most_edges k);
    full = λ k h. absurd (omega arith);
  }

  pub spared_has : (l : List ℕ) (e : ℕ) → Spared ws s l e → get_or s e false ≡ true → Spared ws s l (e + 1)
  spared_has l e u f = record {
    long = u.long;
    none = u.none;
    low = u.low;
    full = below_more (λ k. get_or s k false ≡ false → get_or l k 0 ≡ get_or ws k 0) e u.full (λ h. absurd (true_false f h));
  }

  pub spared_out : (l : List ℕ) (e : ℕ) → Spared ws s l e → e < most_edges → get_or s e false ≡ false → Spared ws s (set l e (get_or ws e 0)) (e + 1)
  spared_out l e u h f = record {
    long = length-set l e (get_or ws e 0) ∙ u.long;
    none = λ k t. ⊎_elim (λ p. absurd (true_false t (ap (λ (j : ℕ). get_or s j false) p.0 ∙ f))) (λ p. p.1 ∙ u.none k t) (new k);
    low = λ k. ⊎_elim (λ p. omega (arith, p.1, ap (λ (j : ℕ). get_or ws j 0) p.0)) (λ p. omega (arith, p.1, u.low k)) (new k);
    full = λ k l t. ⊎_elim (λ p. p.1 ∙ sym (ap (λ (j : ℕ). get_or ws j 0) p.0)) (λ p. p.1 ∙ u.full k (omega (arith, p.0, l)) t) (new k);
  }
    where
      new : (k : ℕ) → ((k ≡ e) × (get_or (set l e (get_or ws e 0)) k 0 ≡ get_or ws e 0)) ⊎ ((k ≢ e) × (get_or (set l e (get_or ws e 0)) k 0 ≡ get_or l k 0))
      new k =
          ⊎_elim (λ p. inl (p, rw p (get_or-set_same l e (get_or ws e 0) 0 (omega (arith, u.long)))))
          (λ n. inr (n, get_or-set_other l e k (get_or ws e 0) 0 n)) (decide (says_eq k e))

-- ---- after the first i edges es of a route: no more than before, and a less at each of them that had it

pub record Taken (es : List ℕ) (a : ℕ) (l₀ l : List ℕ) (i : ℕ) : Type 0 where
  pub long : length l ≡ most_edges
  pub down : (e : ℕ) → get_or l e 0 ≤ get_or l₀ e 0
  pub less : (k : ℕ) → k < i → a ≤ get_or l₀ (get_or es k 0) 0 → get_or l (get_or es k 0) 0 + a ≤ get_or l₀ (get_or es k 0) 0

-- ---- of which edge of a route the least is left

pub tightest_next : {ws : List ℕ} {P : List Bool → Type 0} {s : List Bool} (r : List ℕ) (left : List ℕ) (e : ℕ) → Tightest r left e → Missed ws P s r
    → Addable ws s e
tightest_next {ws = ws} {s = s} r left e t n = subst (Addable ws s) t.on.2 (n.edge t.on.0 t.on.1)
