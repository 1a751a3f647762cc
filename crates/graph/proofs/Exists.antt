-- There is a chosen cut: each edge is tried in and out.
-- Assumes nothing.
use mathlib.Core.List.{List, [], ◌∷◌}
use mathlib.Core.Logic.{◌⊎◌, inl, inr, ◌≢◌, ⊎_elim}
use mathlib.Core.Path.{◌≡◌, refl, subst, subst⁻¹}
use Prim.Native.Nat.{ℕ, zero, suc, ◌+◌, ◌≤◌}
use native.Mathlib.Omega.{arith}
use lib.ListN.{length}
use Rattle.graph.specs.declared.Order.{Order}
use Rattle.graph.specs.declared.Rule.{Rule}
use Rattle.graph.specs.Cut.{ChosenCut, Cut, First, Rising, Separates, weight}
use Rattle.graph.specs.Graph.{Graph, Sound}
use Rattle.graph.specs.Held.{Absent, Follows, Step}
use Rattle.graph.proofs.Better.{Outcome, outcome_iff, outcome_or}
use Rattle.graph.proofs.Decide.{says_separates}
use Rattle.graph.proofs.Says.{decide, says_eq}

-- the best of the good sets of numbers from lo on
module _ (m : ℕ) where
  best_of : (weigh : List ℕ → ℕ) (Good : List ℕ → Type 0) → ((t : List ℕ) → Good t ⊎ (Good t → ⊥)) → (k lo : ℕ) → m ≡ lo + k
      → Outcome weigh (λ t. Rising lo m t × Good t)
  best_of weigh Good test zero lo e = go (test [])
    where
      none : (t : List ℕ) → Rising lo m t → [] ≡ t
      none [] r = refl
      none (x ∷ t) r = absurd (let z : ⊥ = omega (arith, r.0, r.1) in z)

      go : Good [] ⊎ (Good [] → ⊥) → Outcome weigh (λ t. Rising lo m t × Good t)
      go (inl g) =
          inl ([], record { among = (tt, g); least = λ d p. subst (λ (t : List ℕ). weigh [] ≤ weigh t) (none d p.0) (omega arith); first = λ d p q. tt })
      go (inr n) = inr (λ t p. n (subst⁻¹ Good (none t p.0) p.1))
  best_of weigh Good test (suc k) lo e =
      outcome_iff weigh to back (outcome_or weigh
      (best_of weigh Good test k (suc lo) (omega arith))
      (led (best_of (λ t. weigh (lo ∷ t)) (λ t. Good (lo ∷ t)) (λ t. test (lo ∷ t)) k (suc lo) (omega arith))))
    where
      Led : List ℕ → Type 0
      Led [] = ⊥
      Led (x ∷ t) = (lo ≡ x) × (Rising (suc lo) m t × Good (lo ∷ t))

      led : Outcome (λ t. weigh (lo ∷ t)) (λ t. Rising (suc lo) m t × Good (lo ∷ t)) → Outcome weigh Led
      led (inl (c, b)) = inl (lo ∷ c, record { among = (refl, b.among); least = λ d p. (all d p).0; first = λ d p. (all d p).1 })
        where
          all : (d : List ℕ) → Led d → (weigh (lo ∷ c) ≤ weigh d) × (weigh (lo ∷ c) ≡ weigh d → First (lo ∷ c) d)
          all [] p = absurd p
          all (x ∷ d) (q, p) =
              subst (λ (y : ℕ). (weigh (lo ∷ c) ≤ weigh (y ∷ d)) × (weigh (lo ∷ c) ≡ weigh (y ∷ d) → First (lo ∷ c) (y ∷ d))) q
              (b.least d p, λ s. inr (refl, b.first d p s))
      led (inr n) = inr none
        where
          none : (c : List ℕ) → Led c → ⊥
          none [] p = p
          none (x ∷ c) p = n c p.1

      to : (t : List ℕ) → (Rising (suc lo) m t × Good t) ⊎ Led t → Rising lo m t × Good t
      to [] (inl (r, g)) = (tt, g)
      to (x ∷ t) (inl (r, g)) = ((omega (arith, r.0), r.1, r.2), g)
      to [] (inr p) = absurd p
      to (x ∷ t) (inr (q, (r, g))) = subst (λ (y : ℕ). Rising lo m (y ∷ t) × Good (y ∷ t)) q ((omega arith, omega arith, r), g)

      back : (t : List ℕ) → Rising lo m t × Good t → (Rising (suc lo) m t × Good t) ⊎ Led t
      back [] (r, g) = inl (tt, g)
      back (x ∷ t) (r, g) =
          ⊎_elim (λ q. inr (q, (rw q r.2, rw q g))) (λ (d : lo ≢ x). inl ((omega (arith, r.0), r.1, r.2), g)) (decide (says_eq lo x))

-- all numbers from lo on, k of them
upto : ℕ → ℕ → List ℕ
upto zero lo = []
upto (suc k) lo = lo ∷ upto k (suc lo)

rising_upto : (k lo m : ℕ) → m ≡ lo + k → Rising lo m (upto k lo)
unfolding upto
rising_upto zero lo m e = tt
rising_upto (suc k) lo m e = (omega arith, omega arith, rising_upto k (suc lo) m (omega arith))

upto_all : (k lo z : ℕ) → Absent z (upto k lo) → lo ≤ z → lo + k ≤ z
unfolding upto
upto_all zero lo z a l = omega arith
upto_all (suc k) lo z a l = let d : z ≢ lo = a.0 in omega (arith, upto_all k (suc lo) z a.1 (omega arith))

-- there is a chosen cut
pub cut_exists : (g : Graph) (rules : List Rule) → Sound g → (orders : List Order) → (c : List ℕ) × ChosenCut g rules orders c
cut_exists g rules sound orders = go (outcome_iff (weight g) (λ t p. record { rising = p.0; separates = p.1 }) (λ t k. (k.rising, k.separates))
    (best_of (length g.edges) (weight g) (Separates g rules orders) (λ t. decide (says_separates g rules sound orders t)) (length g.edges) 0
    (omega arith)))
  where
    full : List ℕ
    full = upto (length g.edges) 0

    -- without any edge there is no route
    nowhere : (a b : ℕ) (between : List ℕ) → Follows (Step g full) a between b → ⊥
    nowhere a b [] (i, h, out, f, t) = omega (arith, upto_all (length g.edges) 0 i out (omega arith))
    nowhere a b (x ∷ between) ((i, h, out, f, t), s) = omega (arith, upto_all (length g.edges) 0 i out (omega arith))

    go : Outcome (weight g) (Cut g rules orders) → (c : List ℕ) × ChosenCut g rules orders c
    go (inl best) = best
    go (inr n) = absurd (n full record {
      rising = rising_upto (length g.edges) 0 (length g.edges) (omega arith);
      separates = λ o m between r. absurd (nowhere o.first o.second between r.follows);
    })
