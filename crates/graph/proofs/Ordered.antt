-- What is ordered on a route, as a test; and as a chain of rules read from its last link.
-- Assumes nothing.
use mathlib.Core.Bool.{Bool, ◌&&◌, ◌||◌}
use mathlib.Core.List.{List, [], ◌∷◌, ◌++◌, append_assoc}
use mathlib.Core.Logic.{◌⊎◌, inl, inr, ⊎_elim}
use mathlib.Core.Path.{◌≡◌, refl, ap, subst⁻¹}
use Prim.Native.Nat.{ℕ}
use lib.Dec.{T}
use Rattle.graph.specs.declared.Label.{Label}
use Rattle.graph.specs.declared.Rule.{Rule}
use Rattle.graph.specs.Tests.{ruledb}
use Rattle.graph.specs.Graph.{Graph, label}
use Rattle.graph.specs.Held.{Linked, Ordered, by_rule, by_way, Orders}
use Rattle.graph.proofs.Ruled.{says_ruled}
use Rattle.graph.proofs.Says.{Says, says_T, says_and, says_or}

-- a chain from p over some of those between to q
module _ (fitb : ℕ → ℕ → Bool) where
  abbrev pub chainb : ℕ → List ℕ → ℕ → Bool
  chainb p [] q = fitb p q
  chainb p (x ∷ xs) q = chainb p xs q || (fitb p x && chainb x xs q)

module _ {fitb : ℕ → ℕ → Bool} {Fit : ℕ → ℕ → Type 0} (says : (p q : ℕ) → Says (fitb p q) (Fit p q)) where
  pub wider : {p q : ℕ} {xs : List ℕ} (x : ℕ) → Ordered Fit p xs q → Ordered Fit p (x ∷ xs) q
  wider x (by_rule f) = by_rule f
  wider x (by_way k before after e o₁ o₂) = by_way k (x ∷ before) after (ap (λ (l : List ℕ). x ∷ l) e) (wider x o₁) o₂

  chain_so : (p : ℕ) (xs : List ℕ) (q : ℕ) → T (chainb fitb p xs q) → Ordered Fit p xs q
  chain_so p [] q t = by_rule ((says p q).so t)
  chain_so p (x ∷ xs) q t =
      ⊎_elim (λ s. wider x (chain_so p xs q s)) (λ (fit, s). by_way x [] xs refl (by_rule fit) (chain_so x xs q s))
      ((says_or (says_T (chainb fitb p xs q)) (says_and (says p x) (says_T (chainb fitb x xs q)))).so t)

  -- a test that passes on a shorter list passes on a longer
  chain_wider : (p : ℕ) (x : ℕ) (xs : List ℕ) (q : ℕ) → T (chainb fitb p xs q) → T (chainb fitb p (x ∷ xs) q)
  chain_wider p x xs q t = (says_or (says_T (chainb fitb p xs q)) (says_T (fitb p x && chainb fitb x xs q))).back (inl t)

  chain_rule : (p : ℕ) (xs : List ℕ) (q : ℕ) → Fit p q → T (chainb fitb p xs q)
  chain_rule p [] q f = (says p q).back f
  chain_rule p (x ∷ xs) q f = chain_wider p x xs q (chain_rule p xs q f)

  chain_join : (p : ℕ) (before : List ℕ) (k : ℕ) (after : List ℕ) (q : ℕ) → T (chainb fitb p before k) → T (chainb fitb k after q)
      → T (chainb fitb p (before ++ k ∷ after) q)
  chain_join p [] k after q s t =
      (says_or (says_T (chainb fitb p after q)) (says_and (says p k) (says_T (chainb fitb k after q)))).back (inr ((says p k).so s, t))
  chain_join p (x ∷ before) k after q s t =
      let l = before ++ k ∷ after in
      ⊎_elim (λ u. chain_wider p x l q (chain_join p before k after q u t))
      (λ (fit, u). (says_or (says_T (chainb fitb p l q)) (says_and (says p x) (says_T (chainb fitb x l q)))).back (inr (fit, chain_join x before k after q u t)))
      ((says_or (says_T (chainb fitb p before k)) (says_and (says p x) (says_T (chainb fitb x before k)))).so s)

  chain_back : {p : ℕ} {xs : List ℕ} {q : ℕ} → Ordered Fit p xs q → T (chainb fitb p xs q)
  chain_back {p} {xs} {q} (by_rule f) = chain_rule p xs q f
  chain_back {p} {xs} {q} (by_way k before after e o₁ o₂) =
      subst⁻¹ (λ (l : List ℕ). T (chainb fitb p l q)) e (chain_join p before k after q (chain_back o₁) (chain_back o₂))

  pub says_ordered : (p : ℕ) (xs : List ℕ) (q : ℕ) → Says (chainb fitb p xs q) (Ordered Fit p xs q)
  says_ordered p xs q = record { so = chain_so p xs q; back = chain_back }

abbrev pub linkedb : List Rule → (ℕ → Label) → ℕ → List ℕ → ℕ → Bool
linkedb rules l a between b = chainb (λ p q. ruledb rules (l p) (l q)) a between b

pub says_linked : (rules : List Rule) (l : ℕ → Label) (a : ℕ) (between : List ℕ) (b : ℕ) → Says (linkedb rules l a between b) (Linked rules l a between b)
says_linked rules l a between b = says_ordered (λ p q. says_ruled rules (l p) (l q)) a between b

module _ (g : Graph) (rules : List Rule) where
  abbrev pub ordersb : ℕ → List ℕ → ℕ → Bool
  ordersb a between b = linkedb rules (label g) a between b

  pub says_orders : (a : ℕ) (between : List ℕ) (b : ℕ) → Says (ordersb a between b) (Orders g rules a between b)
  says_orders a between b = says_linked rules (label g) a between b

module _ (Fit : ℕ → ℕ → Type 0) where
  -- if q is ordered after p, a rule fits them, or fits one between, ordered after p, and q: what a test from left to right looks for
  abbrev pub LastLink : ℕ → List ℕ → ℕ → Type 0
  LastLink p between q =
      Fit p q ⊎ ((before : List ℕ) × (k : ℕ) × (after : List ℕ) × (between ≡ before ++ k ∷ after) × Ordered Fit p before k × Fit k q)

  pub last_link : {p : ℕ} {between : List ℕ} {q : ℕ} → Ordered Fit p between q → LastLink p between q
  last_link (by_rule f) = inl f
  last_link (by_way k before after e o₁ o₂) =
      ⊎_elim (λ f. inr (before, k, after, e, o₁, f))
      (λ (b', k', a', e', o, f). inr (before ++ k ∷ b', k', a', rw (e, e', append_assoc) refl, by_way k before b' refl o₁ o, f)) (last_link o₂)
