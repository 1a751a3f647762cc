-- The two sets that the walk carries stay right, step by step: the nodes on the route, and those that are ordered after the first if they come next.
-- Assumes nothing.
use mathlib.Core.Bool.{true, false}
use mathlib.Core.List.{List, [], ◌∷◌, ◌++◌, append_assoc, append-ne-nil_of_right_ne-nil, cons-ne-nil, head-eq_of_cons-eq, tail-eq_of_cons-eq}
use mathlib.Core.Logic.{◌⊎◌, inl, inr, ⊎_elim, ◌≢◌}
use mathlib.Core.Path.{◌≡◌, refl, sym, ap, ap₂, ◌∙◌}
use Prim.Native.Nat.{ℕ}
use lib.ListN.{get_or}
use Rattle.flags.specs.Flag.{flag, put}
use Rattle.flags.proofs.Digit.{flag_zero}
use Rattle.flags.proofs.Pair.{either_cases}
use Rattle.flags.proofs.Put.{put_same, put_other}
use Rattle.graph.specs.Held.{Absent, Ordered, by_rule, by_way}
use Rattle.graph.proofs.Ordered.{last_link}
use Rattle.graph.proofs.Splits.{bool, true_false}
use Rattle.step.specs.Rest.{mark}
use Rattle.walk.specs.Asked.{Lists}
use Rattle.step.proofs.Rest.{mark_same, mark-more, mark_keeps, mark_new}

-- ---- what is ordered after the first node once one more is on the route

-- a place in a list with one element more: that element, or a place in the list
abbrev Place : List ℕ → ℕ → List ℕ → ℕ → Type 0
Place seen v before k = ((before ≡ seen) × (k ≡ v)) ⊎ ((later : List ℕ) × (seen ≡ before ++ k ∷ later))

place : (seen : List ℕ) (v : ℕ) (before : List ℕ) (k : ℕ) (rest : List ℕ) → seen ++ v ∷ [] ≡ before ++ k ∷ rest → Place seen v before k
place [] v [] k rest e = inl (refl, sym (head-eq_of_cons-eq e))
place [] v (x ∷ before) k rest e = absurd (append-ne-nil_of_right_ne-nil before (cons-ne-nil k rest) (sym (tail-eq_of_cons-eq e)))
place (y ∷ seen) v [] k rest e = inr (seen, ap (λ (z : ℕ). z ∷ seen) (head-eq_of_cons-eq e))
place (y ∷ seen) v (x ∷ before) k rest e = elim (place seen v before k rest (tail-eq_of_cons-eq e)) [
  | inl (p, q) ↦ inl (ap₂ (λ (a : ℕ) (l : List ℕ). a ∷ l) (sym (head-eq_of_cons-eq e)) p, q)
  | inr (later, p) ↦ inr (later, ap₂ (λ (a : ℕ) (l : List ℕ). a ∷ l) (head-eq_of_cons-eq e) p)
]

module _ (Fit : ℕ → ℕ → Type 0) where
  ordered_on : (a : ℕ) (seen : List ℕ) (v k : ℕ) → Ordered Fit a seen k ⊎ (Ordered Fit a seen v × Fit v k) → Ordered Fit a (seen ++ v ∷ []) k
  ordered_on a seen v k (inr (o, f)) = by_way v seen [] refl o (by_rule f)
  ordered_on a seen v k (inl o) =
      ⊎_elim by_rule (λ (before, m, rest, e, p, f). by_way m before (rest ++ v ∷ []) (rw (e, append_assoc) refl) p (by_rule f)) (last_link Fit o)

  ordered_off : (a : ℕ) (seen : List ℕ) (v k : ℕ) → Ordered Fit a (seen ++ v ∷ []) k → Ordered Fit a seen k ⊎ (Ordered Fit a seen v × Fit v k)
  ordered_off a seen v k o =
      ⊎_elim (λ f. inl (by_rule f))
      (λ (before, m, rest, e, p, f). ⊎_elim (λ (q, r). inr (rw (← q, ← r) (p, f))) (λ (later, q). inl (by_way m before later q p (by_rule f)))
      (place seen v before m rest e))
      (last_link Fit o)

-- ---- the sets

module _ (fits : List ℕ) (a : ℕ) where
  -- the two sets are right for a route that has gone from a over `seen`; `path` has its nodes, in any order
  pub record Carried (path seen : List ℕ) (visited after : ℕ) : Type 0 where
    pub new : (k : ℕ) → flag visited k ≡ false → Absent k path
    pub old : (k : ℕ) → Absent k path → flag visited k ≡ false
    pub late : (k : ℕ) → flag after k ≡ true → Ordered (Lists fits) a seen k
    pub lates : (k : ℕ) → Ordered (Lists fits) a seen k → flag after k ≡ true

  pub carried_start : Carried (a ∷ []) [] (put 0 a) (get_or fits a 0)
  carried_start = record {
    new = λ k e. (λ p. true_false (put_same 0 a) (ap (flag (put 0 a)) (sym p) ∙ e), tt);
    old = λ k n. put_other 0 a k n.0 ∙ flag_zero k;
    late = λ k e. by_rule e;
    lates = λ k o. ⊎_elim (λ f. f)
        (λ (before, m, rest, e, p, f). absurd (append-ne-nil_of_right_ne-nil before (cons-ne-nil m rest) (sym e)))
        (last_link (Lists fits) o);
  }

  pub carried_on : {path seen : List ℕ} {visited after : ℕ} (v : ℕ) → Carried path seen visited after
      → Carried (v ∷ path) (seen ++ v ∷ []) (put visited v) (mark fits after v)
  carried_on {path} {seen} {visited} {after} v s = record {
    new = λ k e. let apart : k ≢ v = λ p. true_false (put_same visited v) (ap (flag (put visited v)) (sym p) ∙ e) in
        (apart, s.new k (sym (put_other visited v k apart) ∙ e));
    old = λ k n. put_other visited v k n.0 ∙ s.old k n.1;
    late = late';
    lates = λ k o. ⊎_elim (λ h. mark_keeps fits after v k (s.lates k h)) (λ h. mark_new fits after v k (s.lates v h.0) h.1)
        (ordered_off (Lists fits) a seen v k o);
  }
    where
      late' : (k : ℕ) → flag (mark fits after v) k ≡ true → Ordered (Lists fits) a (seen ++ v ∷ []) k
      late' k e =
          ordered_on (Lists fits) a seen v k
          (⊎_elim
          (λ p. ⊎_elim (λ h. inl (s.late k h)) (λ h. inr (s.late v p, h)) (either_cases after (get_or fits v 0) k (rw (mark-more fits after v p) at e)))
          (λ p. inl (s.late k (rw (mark_same fits after v p) at e)))
          (bool (flag after v)))
