-- Which of two lists is better, and what is best of two families.
-- Assumes nothing.
use mathlib.Core.List.{List, [], ◌∷◌}
use mathlib.Core.Logic.{◌⊎◌, inl, inr, ⊎_elim}
use mathlib.Core.Path.{◌≡◌, refl, ◌∙◌, sym}
use Prim.Native.Nat.{ℕ, ◌≤◌}
use native.Mathlib.Omega.{arith}
use Rattle.graph.specs.Cut.{First, Best}
use Rattle.graph.proofs.Splits.{tri}

pub first_refl : (c : List ℕ) → First c c
first_refl [] = tt
first_refl (x ∷ c) = inr (refl, first_refl c)

first_trans : (c d e : List ℕ) → First c d → First d e → First c e
first_trans [] d e p q = tt
first_trans (x ∷ c) [] e p q = absurd p
first_trans (x ∷ c) (y ∷ d) [] p q = absurd q
first_trans (x ∷ c) (y ∷ d) (z ∷ e) (inl p) (inl q) = inl (omega arith)
first_trans (x ∷ c) (y ∷ d) (z ∷ e) (inl p) (inr q) = inl (omega arith)
first_trans (x ∷ c) (y ∷ d) (z ∷ e) (inr p) (inl q) = inl (omega arith)
first_trans (x ∷ c) (y ∷ d) (z ∷ e) (inr p) (inr q) = inr (p.0 ∙ q.0, first_trans c d e p.1 q.1)

first_total : (c d : List ℕ) → First c d ⊎ First d c
first_total [] d = inl tt
first_total (x ∷ c) [] = inr tt
first_total (x ∷ c) (y ∷ d) =
    ⊎_elim (λ p. inl (inl p)) (⊎_elim (λ e. ⊎_elim (λ r. inl (inr (e, r))) (λ r. inr (inr (sym e, r))) (first_total c d)) (λ q. inr (inl q))) (tri x y)

module _ (weigh : List ℕ → ℕ) where
  abbrev Better : List ℕ → List ℕ → Type 0
  Better c d = (weigh c ≤ weigh d) × (weigh c ≡ weigh d → First c d)

  better_trans : (c d e : List ℕ) → Better c d → Better d e → Better c e
  better_trans c d e p q = (omega arith, λ s. first_trans c d e (p.1 (omega arith)) (q.1 (omega arith)))

  better_total : (c d : List ℕ) → Better c d ⊎ Better d c
  better_total c d =
      ⊎_elim (λ p. inl (omega arith, λ e. absurd (omega arith)))
      (⊎_elim (λ s. ⊎_elim (λ r. inl (omega arith, λ e. r)) (λ r. inr (omega arith, λ e. r)) (first_total c d))
      (λ q. inr (omega arith, λ e. absurd (omega arith))))
      (tri (weigh c) (weigh d))

  -- what a search gives: the best, or that there is none
  abbrev pub Outcome : (List ℕ → Type 0) → Type 0
  Outcome P = ((c : List ℕ) × Best P weigh c) ⊎ ((c : List ℕ) → P c → ⊥)

  pub outcome_iff : {P Q : List ℕ → Type 0} → ((c : List ℕ) → P c → Q c) → ((c : List ℕ) → Q c → P c) → Outcome P → Outcome Q
  outcome_iff f g (inl (c, b)) = inl (c, record { among = f c b.among; least = λ d q. b.least d (g d q); first = λ d q. b.first d (g d q) })
  outcome_iff f g (inr n) = inr (λ c q. n c (g c q))

  -- the best of one family, where it is better than all of another
  best_of_both : {P Q : List ℕ → Type 0} {c : List ℕ} → Best P weigh c → ((e : List ℕ) → Q e → Better c e) → Outcome (λ x. P x ⊎ Q x)
  best_of_both {P} {Q} {c} p over = inl (c, record { among = inl p.among; least = λ e r. (all e r).0; first = λ e r. (all e r).1 })
    where
      all : (e : List ℕ) → P e ⊎ Q e → Better c e
      all e (inl x) = (p.least e x, p.first e x)
      all e (inr x) = over e x

  turned : {P Q : List ℕ → Type 0} → Outcome (λ x. P x ⊎ Q x) → Outcome (λ x. Q x ⊎ P x)
  turned o = outcome_iff (λ c. ⊎_elim inr inl) (λ c. ⊎_elim inr inl) o

  pub outcome_or : {P Q : List ℕ → Type 0} → Outcome P → Outcome Q → Outcome (λ x. P x ⊎ Q x)
  outcome_or (inl (c, p)) (inl (d, q)) =
      ⊎_elim (λ b. best_of_both p (λ e x. better_trans c d e b (q.least e x, q.first e x)))
      (λ b. turned (best_of_both q (λ e x. better_trans d c e b (p.least e x, p.first e x)))) (better_total c d)
  outcome_or (inl (c, p)) (inr n) = best_of_both p (λ e x. absurd (n e x))
  outcome_or (inr n) (inl (d, q)) = turned (best_of_both q (λ e x. absurd (n e x)))
  outcome_or (inr n) (inr k) = inr (λ c. ⊎_elim (n c) (k c))
