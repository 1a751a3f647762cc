-- There is at most one best list, whatever it is chosen among.
-- Assumes nothing.
use mathlib.Core.List.{List, [], ◌∷◌}
use mathlib.Core.Logic.{inl, inr}
use mathlib.Core.Path.{◌≡◌, refl, subst, subst⁻¹}
use Prim.Native.Nat.{ℕ}
use native.Mathlib.Omega.{arith}
use Rattle.graph.specs.declared.Rule.{Rule}
use Rattle.graph.specs.Ask.{along, AskedWithout, is_held, is_open}
use Rattle.graph.specs.Cut.{First, Best}
use Rattle.graph.specs.Graph.{Graph}
use Rattle.graph.specs.Refusal.{Refused}

pub first_antisym : (c d : List ℕ) → First c d → First d c → c ≡ d
first_antisym [] [] p q = refl
first_antisym [] (y ∷ d) p q = absurd q
first_antisym (x ∷ c) [] p q = absurd p
first_antisym (x ∷ c) (y ∷ d) (inl p) (inl q) = absurd (let z : ⊥ = omega arith in z)
first_antisym (x ∷ c) (y ∷ d) (inl p) (inr q) = absurd (let z : ⊥ = omega arith in z)
first_antisym (x ∷ c) (y ∷ d) (inr p) (inl q) = absurd (let z : ⊥ = omega arith in z)
first_antisym (x ∷ c) (y ∷ d) (inr p) (inr q) = let e : c ≡ d = first_antisym c d p.1 q.1 in let x≡y : x ≡ y = p.0 in cc

module _ {Among : List ℕ → Type 0} {weigh : List ℕ → ℕ} where
  pub best_unique : {c d : List ℕ} → Best Among weigh c → Best Among weigh d → c ≡ d
  best_unique {c} {d} p q =
      let cd : weigh c ≡ weigh d = omega (arith, p.least d q.among, q.least c p.among) in
      let dc : weigh d ≡ weigh c = omega arith in
      first_antisym c d (p.first d q.among cd) (q.first c p.among dc)

-- ask has at most one answer, whatever edges it avoids
pub asked_unique : {g : Graph} {rules : List Rule} {c : List ℕ} {a b : ℕ} {r s : List ℕ} → AskedWithout g rules c a b r → AskedWithout g rules c a b s → r ≡ s
asked_unique (is_held h) (is_held k) = refl
asked_unique (is_held h) (is_open {between = l} k) = absurd (k.unordered (h l k.route))
asked_unique (is_open {between = l} h) (is_held k) = absurd (h.unordered (k l h.route))
asked_unique {a = a} {b = b} (is_open {between = l} h) (is_open {between = l'} k) =
    first_antisym (along a l b) (along a l' b) (h.first l' k.route k.unordered) (k.first l h.route h.unordered)

-- a refusal has one answer and one place
pub refused_unique : {A : Type 0} {rank : A → ℕ} {Bad : A → ℕ → Type 0} → ((a b : A) → rank a ≡ rank b → a ≡ b)
    → {a b : A} {p q : ℕ} → Refused rank Bad a p → Refused rank Bad b q → (a ≡ b) × (p ≡ q)
refused_unique {A} {rank} {Bad} apart {a} {b} {p} {q} r s =
    let ab : a ≡ b = apart a b (omega (arith, r.lowest b q s.bad, s.lowest a p r.bad)) in
    (ab, omega (arith, r.earliest q (subst⁻¹ (λ (k : A). Bad k q) ab s.bad), s.earliest p (subst (λ (k : A). Bad k p) ab r.bad)))
