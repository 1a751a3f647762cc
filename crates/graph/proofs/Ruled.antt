-- A rule's test is right: it passes exactly when one assignment serves both sides. And a scan of the rules goes one at a time.
-- Assumes nothing.
use mathlib.Core.Bool.{Bool, false, true, ◌||◌, cond, or-false, or_assoc}
use mathlib.Core.List.{List, [], ◌∷◌}
use mathlib.Core.Path.{◌∙◌, ◌≡◌, refl, subst, sym, ap}
use Prim.Native.Nat.{◌<◌, suc, zero, ℕ}
use native.Mathlib.Nat.{le_of_suc-le-suc, not-suc-le-zero}
use lib.Dec.{eqb, eqb→eq, T}
use lib.ListN.{get_or, length, take}
use borrow.Author.Tests.{eq-eqb, eqb-false, eqb-true, ne_eqb}
use Rattle.graph.specs.declared.Label.{Label}
use Rattle.graph.specs.declared.Label.TheVariants.{Fence, Load, Store}
use Rattle.graph.specs.declared.Rule.{Rule}
use Rattle.graph.specs.declared.Side.{Side}
use Rattle.graph.specs.declared.Side.TheVariants.{Any, Is}
use Rattle.graph.specs.declared.Want.{Want}
use Rattle.graph.specs.declared.Want.TheVariants.{Free, Never, Var}
use Rattle.graph.specs.Fit.{Fits, Matches, Ruled}
use Rattle.std.specs.List.{list_any}
use Rattle.graph.specs.Tests.{agree, fit_of, if_same, ruledb, want_of}
use Rattle.graph.proofs.Says.{Says, says_eq, says_iff, says_no, says_some, says_yes}

-- what an assignment has to meet
abbrev Meets : (ℕ → ℕ) → Want → Type 0
Meets σ Never = ⊥
Meets σ Free = Unit {0}
Meets σ (Var x a) = σ x ≡ a

matches_is : (σ : ℕ → ℕ) (s : Side) (l : Label) → Matches σ s l ≡ Meets σ (want_of s l)
matches_is σ Any l = refl
matches_is σ (Is (Store x)) (Store a) = refl
matches_is σ (Is (Store x)) (Load a) = refl
matches_is σ (Is (Store x)) Fence = refl
matches_is σ (Is (Load x)) (Store a) = refl
matches_is σ (Is (Load x)) (Load a) = refl
matches_is σ (Is (Load x)) Fence = refl
matches_is σ (Is Fence) (Store a) = refl
matches_is σ (Is Fence) (Load a) = refl
matches_is σ (Is Fence) Fence = refl

one_for_both : (x m y n : ℕ) → T (if_same (eqb x y) (eqb m n)) → (σ : ℕ → ℕ) × (σ x ≡ m) × (σ y ≡ n)
one_for_both x m y n t = (
  (λ v. cond (eqb v x) m n),
  ap (λ (b : Bool). cond b m n) (eq-eqb x x refl),
  go (eqb x y) refl,
)
  where
    go : (b : Bool) → eqb x y ≡ b → cond (eqb y x) m n ≡ n
    go true h =
        let mn : m ≡ n = eqb→eq m n (subst (λ (b : Bool). T (if_same b (eqb m n))) h t) in
        ap (λ (b : Bool). cond b m n) (eq-eqb y x (sym (eqb-true x y h))) ∙ mn
    go false h = ap (λ (b : Bool). cond b m n) (ne_eqb y x (λ k. eqb-false x y h (sym k)))

-- variables that are the same have to have the same address
two_for_one : (x m y n : ℕ) (σ : ℕ → ℕ) → σ x ≡ m → σ y ≡ n → T (if_same (eqb x y) (eqb m n))
two_for_one x m y n σ p q = go (eqb x y) refl
  where
    go : (b : Bool) → eqb x y ≡ b → T (if_same b (eqb m n))
    go true h = (says_eq m n).back (sym p ∙ ap σ (eqb-true x y h) ∙ q)
    go false h = tt

says_agree : (a b : Want) → Says (agree a b) ((σ : ℕ → ℕ) × Meets σ a × Meets σ b)
says_agree Never b = says_no (λ h. h.1)
says_agree Free Never = says_no (λ h. h.2)
says_agree Free Free = says_yes ((λ v. 0), tt, tt)
says_agree Free (Var y n) = says_yes ((λ v. n), tt, refl)
says_agree (Var x m) Never = says_no (λ h. h.2)
says_agree (Var x m) Free = says_yes ((λ v. m), refl, tt)
says_agree (Var x m) (Var y n) = record { so = one_for_both x m y n; back = λ h. two_for_one x m y n h.0 h.1 h.2 }

pub says_fits : (r : Rule) (p q : Label) → Says (fit_of r p q) (Fits r p q)
says_fits r p q = says_iff
    (λ h. (h.0, rw (matches_is h.0 r.left p) h.1, rw (matches_is h.0 r.right q) h.2))
    (λ h. (h.0, rw (matches_is h.0 r.left p) at h.1, rw (matches_is h.0 r.right q) at h.2))
    (says_agree (want_of r.left p) (want_of r.right q))

pub says_ruled : (rules : List Rule) (p q : Label) → Says (ruledb rules p q) (Ruled rules p q)
says_ruled rules p q = says_some (λ r. says_fits r p q) rules

-- ---- a scan of a list, one at a time

module _ {A : Type 0} (f : A → Bool) where
  -- one more
  pub some_or : (xs : List A) (i : ℕ) (d : A) → i < length xs → list_any f (take (suc i) xs) ≡ (list_any f (take i xs) || f (get_or xs i d))
  some_or [] i d h = absurd (not-suc-le-zero h)
  some_or (x ∷ xs) zero d h = or-false (f x)
  some_or (x ∷ xs) (suc i) d h =
      ap (λ (b : Bool). f x || b) (some_or xs i d (le_of_suc-le-suc h)) ∙ sym (or_assoc (f x) (list_any f (take i xs)) (f (get_or xs i d)))
