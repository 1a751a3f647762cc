-- Tests that compute, and what they decide. `Says b P` reads: the test b passes exactly when P.
-- Assumes nothing.
use mathlib.Core.Bool.{Bool, true, false, not, ◌&&◌, ◌||◌}
use mathlib.Core.List.Memᴰ
use mathlib.Core.List.{List, [], ◌∷◌, Memᴰ, head-eq_of_cons-eq, tail-eq_of_cons-eq}
use mathlib.Core.Logic.{◌⊎◌, inl, inr}
use mathlib.Core.Path.{◌≡◌, refl, sym, subst, ap₂}
use Prim.Native.Nat.{ℕ, zero, suc, ◌<◌, ◌≤◌}
use native.Mathlib.Omega.{arith}
use lib.Dec.{T, eqb, ltb, leb, eqb→eq, eqb_refl, ltb→lt, lt→ltb, leb→le, le→leb}
use Rattle.std.specs.List.{list_any}
use Rattle.graph.specs.Held.{Each, Absent, NoneTwice}

pub record Says (b : Bool) (P : Type 0) : Type 0 where
  pub so : T b → P
  pub back : P → T b

pub says_T : (b : Bool) → Says b (T b)
says_T b = record { so = λ t. t; back = λ t. t }

pub says_yes : {P : Type 0} → P → Says true P
says_yes p = record { so = λ t. p; back = λ q. tt }

pub says_no : {P : Type 0} → (P → ⊥) → Says false P
says_no n = record { so = λ t. absurd t; back = λ p. n p }

pub says_and : {b c : Bool} {P Q : Type 0} → Says b P → Says c Q → Says (b && c) (P × Q)
says_and {b = true} {c} p q = record { so = λ t. (p.so tt, q.so t); back = λ r. q.back r.1 }
says_and {b = false} {c} p q = record { so = λ t. absurd t; back = λ r. p.back r.0 }

pub says_or : {b c : Bool} {P Q : Type 0} → Says b P → Says c Q → Says (b || c) (P ⊎ Q)
says_or {b = true} {c} {P} {Q} p q = record { so = λ t. inl (p.so tt); back = λ r. tt }
says_or {b = false} {c} {P} {Q} p q = record { so = λ t. inr (q.so t); back = elim [ inl x ↦ absurd (p.back x) | inr y ↦ q.back y ] }

pub says_not : {b : Bool} {P : Type 0} → Says b P → Says (not b) (P → ⊥)
says_not {b = true} p = record { so = λ t. absurd t; back = λ r. r (p.so tt) }
says_not {b = false} p = record { so = λ t x. p.back x; back = λ r. tt }

abbrev pub implies : Bool → Bool → Bool
implies true c = c
implies false c = true

pub says_implies : {b c : Bool} {P Q : Type 0} → Says b P → Says c Q → Says (implies b c) (P → Q)
says_implies {b = true} {c} p q = record { so = λ t x. q.so t; back = λ r. q.back (r (p.so tt)) }
says_implies {b = false} {c} p q = record { so = λ t x. absurd (p.back x); back = λ r. tt }

pub says_iff : {b : Bool} {P Q : Type 0} → (P → Q) → (Q → P) → Says b P → Says b Q
says_iff f g p = record { so = λ t. f (p.so t); back = λ q. p.back (g q) }

pub decide : {P : Type 0} {b : Bool} → Says b P → P ⊎ (P → ⊥)
decide {P} {b = true} p = inl (p.so tt)
decide {P} {b = false} p = inr p.back

-- what a test decides can be proved by contradiction
pub stable : {P : Type 0} {b : Bool} → Says b P → ((P → ⊥) → ⊥) → P
stable {P} {b = true} p n = p.so tt
stable {P} {b = false} p n = absurd (n p.back)

pub says_eq : (m n : ℕ) → Says (eqb m n) (m ≡ n)
says_eq m n = record { so = eqb→eq m n; back = λ e. subst (λ (k : ℕ). T (eqb m k)) e (eqb_refl m) }

pub says_lt : (m n : ℕ) → Says (ltb m n) (m < n)
says_lt m n = record { so = ltb→lt m n; back = lt→ltb m n }

pub says_le : (m n : ℕ) → Says (leb m n) (m ≤ n)
says_le m n = record { so = leb→le m n; back = le→leb m n }

abbrev pub eachb : (ℕ → Bool) → List ℕ → Bool
eachb f [] = true
eachb f (x ∷ xs) = f x && eachb f xs

pub says_each : {f : ℕ → Bool} {P : ℕ → Type 0} → ((x : ℕ) → Says (f x) (P x)) → (xs : List ℕ) → Says (eachb f xs) (Each P xs)
says_each s [] = says_yes tt
says_each s (x ∷ xs) = says_and (s x) (says_each s xs)

abbrev pub absentb : ℕ → List ℕ → Bool
absentb x ys = eachb (λ y. not (eqb x y)) ys

pub says_absent : (x : ℕ) (ys : List ℕ) → Says (absentb x ys) (Absent x ys)
says_absent x ys = says_each (λ y. says_not (says_eq x y)) ys

abbrev pub none_twiceb : List ℕ → Bool
none_twiceb [] = true
none_twiceb (x ∷ xs) = absentb x xs && none_twiceb xs

pub says_none_twice : (xs : List ℕ) → Says (none_twiceb xs) (NoneTwice xs)
says_none_twice [] = says_yes tt
says_none_twice (x ∷ xs) = says_and (says_absent x xs) (says_none_twice xs)

-- some, and every, element of a list
module _ {A : Type 0} where
  abbrev pub everyb : (A → Bool) → List A → Bool
  everyb f [] = true
  everyb f (x ∷ xs) = f x && everyb f xs

  pub says_some : {f : A → Bool} {P : A → Type 0} → ((x : A) → Says (f x) (P x)) → (xs : List A) → Says (list_any f xs) ((x : A) × Memᴰ x xs × P x)
  says_some s [] = says_no (λ r. Memᴰ.not-nil r.1)
  says_some {f} {P} s (x ∷ xs) = says_iff {P = P x ⊎ ((y : A) × Memᴰ y xs × P y)}
      (λ r. elim r [ inl p ↦ (x, Memᴰ.head refl, p) | inr (y, m, p) ↦ (y, Memᴰ.tail m, p) ])
      (λ (y, m, p). elim (Memᴰ.cases_cons m) [ inl e ↦ inl (subst P e p) | inr k ↦ inr (y, k, p) ])
      (says_or (s x) (says_some s xs))

  pub says_every : {f : A → Bool} {P : A → Type 0} → ((x : A) → Says (f x) (P x)) → (xs : List A) → Says (everyb f xs) ((x : A) → Memᴰ x xs → P x)
  says_every s [] = says_yes (λ x m. absurd (Memᴰ.not-nil m))
  says_every {f} {P} s (x ∷ xs) = says_iff {P = P x × ((y : A) → Memᴰ y xs → P y)}
      (λ r y m. elim (Memᴰ.cases_cons m) [ inl e ↦ subst P (sym e) r.0 | inr k ↦ r.1 y k ])
      (λ r. (r x (Memᴰ.head refl), λ y m. r y (Memᴰ.tail m))) (says_and (s x) (says_every s xs))

-- some number below n
abbrev pub some_below : ℕ → (ℕ → Bool) → Bool
some_below zero f = false
some_below (suc n) f = f n || some_below n f

pub says_below : {f : ℕ → Bool} {P : ℕ → Type 0} (n : ℕ) → ((i : ℕ) → i < n → Says (f i) (P i)) → Says (some_below n f) ((i : ℕ) × (i < n) × P i)
says_below zero s = says_no (λ r. let h = r.1 in omega arith)
says_below {f} {P} (suc n) s = says_iff {P = P n ⊎ ((i : ℕ) × (i < n) × P i)}
    (λ r. elim r [ inl p ↦ (n, omega arith, p) | inr (i, h, p) ↦ (i, omega arith, p) ])
    (λ (i, h, p). elim (decide (says_eq i n)) [ inl e ↦ inl (subst P e p) | inr d ↦ inr (i, omega arith, p) ])
    (says_or (s n (omega arith)) (says_below n (λ i h. s i (omega arith))))

pub both : (b c : Bool) → T (b && c) → T b × T c
both b c t = (says_and (says_T b) (says_T c)).so t

pub and : (b c : Bool) → T b → T c → T (b && c)
and b c p q = (says_and (says_T b) (says_T c)).back (p, q)

abbrev pub eqs : List ℕ → List ℕ → Bool
eqs [] [] = true
eqs [] (y ∷ ys) = false
eqs (x ∷ xs) [] = false
eqs (x ∷ xs) (y ∷ ys) = eqb x y && eqs xs ys

pub says_eqs : (xs ys : List ℕ) → Says (eqs xs ys) (xs ≡ ys)
says_eqs [] [] = says_yes refl
says_eqs [] (y ∷ ys) = says_no (λ e. let z : ◌≡◌ {A = ℕ} 0 1 = cc in omega arith)
says_eqs (x ∷ xs) [] = says_no (λ e. let z : ◌≡◌ {A = ℕ} 0 1 = cc in omega arith)
says_eqs (x ∷ xs) (y ∷ ys) =
    says_iff (λ (p, q). ap₂ (λ (a : ℕ) (b : List ℕ). a ∷ b) p q) (λ e. (head-eq_of_cons-eq e, tail-eq_of_cons-eq e)) (says_and (says_eq x y) (says_eqs xs ys))
