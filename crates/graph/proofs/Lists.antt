-- A test at every rising list, and at every list with none twice.
-- Assumes nothing.
use mathlib.Core.Bool.{Bool, ◌&&◌}
use mathlib.Core.List.{List, [], ◌∷◌, ◌++◌}
use mathlib.Core.Logic.{◌⊎◌, inl, inr, ◌≢◌}
use mathlib.Core.Path.{◌≡◌, sym, subst}
use Prim.Native.Nat.{ℕ, zero, suc, ◌+◌, ◌<◌}
use native.Mathlib.Omega.{arith}
use lib.Dec.{T}
use Rattle.graph.specs.Cut.{Rising}
use Rattle.graph.specs.Held.{Each, Absent, Within, NoneTwice}
use Rattle.graph.proofs.Says.{and, both, decide, says_eq}

-- every rising list of numbers from lo, below lo + k
abbrev pub every_set : ℕ → ℕ → (List ℕ → Bool) → Bool
every_set zero lo f = f []
every_set (suc k) lo f = every_set k (suc lo) f && every_set k (suc lo) (λ d. f (lo ∷ d))

pub every_set_so : (k lo m : ℕ) (f : List ℕ → Bool) → m ≡ lo + k → T (every_set k lo f) → (d : List ℕ) → Rising lo m d → T (f d)
every_set_so zero lo m f e t [] r = t
every_set_so zero lo m f e t (x ∷ d) r = absurd (let z : ⊥ = omega arith in z)
every_set_so (suc k) lo m f e t [] r = every_set_so k (suc lo) m f (omega arith) (both (every_set k (suc lo) f) (every_set k (suc lo) (λ l. f (lo ∷ l))) t).0 [] tt
every_set_so (suc k) lo m f e t (x ∷ d) r =
    let t2 = both (every_set k (suc lo) f) (every_set k (suc lo) (λ l. f (lo ∷ l))) t in elim (decide (says_eq x lo)) [
      | inl s ↦ rw s (every_set_so k (suc lo) m (λ l. f (lo ∷ l)) (omega arith) t2.1 d (rw s at r.2))
      | inr n ↦ every_set_so k (suc lo) m f (omega arith) t2.0 (x ∷ d) (omega (arith, r.0), r.1, r.2)
    ]

pub rising_later : (lo m : ℕ) (d : List ℕ) → Rising (suc lo) m d → Rising lo m d
rising_later lo m [] r = tt
rising_later lo m (x ∷ d) r = let r0 = r.0 in (omega arith, r.1, r.2)

pub every_set_back : (k lo m : ℕ) (f : List ℕ → Bool) → m ≡ lo + k → ((d : List ℕ) → Rising lo m d → T (f d)) → T (every_set k lo f)
every_set_back zero lo m f e h = h [] tt
every_set_back (suc k) lo m f e h = and (every_set k (suc lo) f) (every_set k (suc lo) (λ d. f (lo ∷ d)))
    (every_set_back k (suc lo) m f (omega arith) (λ d r. h d (rising_later lo m d r)))
    (every_set_back k (suc lo) m (λ d. f (lo ∷ d)) (omega arith) (λ d r. h (lo ∷ d) (omega arith, omega arith, r)))

-- f at l with x put in at each place
abbrev pub every_place : ℕ → List ℕ → (List ℕ → Bool) → Bool
every_place x [] f = f (x ∷ [])
every_place x (y ∷ l) f = f (x ∷ y ∷ l) && every_place x l (λ r. f (y ∷ r))

every_place_so : (x : ℕ) (before after : List ℕ) (f : List ℕ → Bool) → T (every_place x (before ++ after) f) → T (f (before ++ x ∷ after))
every_place_so x [] [] f t = t
every_place_so x [] (y ∷ after) f t = (both (f (x ∷ y ∷ after)) (every_place x after (λ r. f (y ∷ r))) t).0
every_place_so x (y ∷ before) after f t =
    every_place_so x before after (λ r. f (y ∷ r)) (both (f (x ∷ y ∷ before ++ after)) (every_place x (before ++ after) (λ r. f (y ∷ r))) t).1

every_place_back : (x : ℕ) (l : List ℕ) (f : List ℕ → Bool) → ((d : List ℕ) → T (f d)) → T (every_place x l f)
every_place_back x [] f h = h (x ∷ [])
every_place_back x (y ∷ l) f h = and (f (x ∷ y ∷ l)) (every_place x l (λ r. f (y ∷ r))) (h (x ∷ y ∷ l)) (every_place_back x l (λ r. f (y ∷ r)) (λ d. h (y ∷ d)))

-- f at each list of numbers below n with none twice
abbrev pub every_list : ℕ → (List ℕ → Bool) → Bool
every_list zero f = f []
every_list (suc n) f = every_list n (λ l. f l && every_place n l f)

-- x is among them, or it is none of them
pub split : (n : ℕ) (xs : List ℕ) → ((before : List ℕ) × (after : List ℕ) × (xs ≡ before ++ n ∷ after)) ⊎ Absent n xs
split n [] = inr tt
split n (x ∷ xs) = elim (decide (says_eq n x)) [
  | inl e ↦ inl ([], xs, (cc))
  | inr d ↦ elim (split n xs) [ inl (before, after, e) ↦ inl (x ∷ before, after, (cc)) | inr r ↦ inr (d, r) ]
]

-- the middle taken out
each_out : (P : ℕ → Type 0) (before : List ℕ) (x : ℕ) (after : List ℕ) → Each P (before ++ x ∷ after) → P x × Each P (before ++ after)
each_out P [] x after p = p
each_out P (y ∷ before) x after p = let r = each_out P before x after p.1 in (r.0, (p.0, r.1))

pub each_map : (P Q : ℕ → Type 0) (xs : List ℕ) → ((x : ℕ) → P x → Q x) → Each P xs → Each Q xs
each_map P Q [] f p = tt
each_map P Q (x ∷ xs) f p = (f x p.0, each_map P Q xs f p.1)

each_both : (P Q : ℕ → Type 0) (xs : List ℕ) → Each P xs → Each Q xs → Each (λ x. P x × Q x) xs
each_both P Q [] p q = tt
each_both P Q (x ∷ xs) p q = ((p.0, q.0), each_both P Q xs p.1 q.1)

pub none_twice_out : (before : List ℕ) (x : ℕ) (after : List ℕ) → NoneTwice (before ++ x ∷ after) → Absent x (before ++ after) × NoneTwice (before ++ after)
none_twice_out [] x after p = p
none_twice_out (y ∷ before) x after p =
    let r = none_twice_out before x after p.1 in
    let q = each_out (λ z. y ≢ z) before x after p.0 in
    ((λ e. q.0 (sym e), r.0), (q.1, r.1))

below_less : (n : ℕ) (xs : List ℕ) → Within (suc n) xs → Absent n xs → Within n xs
below_less n xs w a =
    each_map (λ x. (x < suc n) × (n ≢ x)) (λ x. x < n) xs (λ x p. let p0 = p.0 in let p1 : n ≢ x = p.1 in omega arith)
    (each_both (λ x. x < suc n) (λ x. n ≢ x) xs w a)

pub every_list_so : (n : ℕ) (f : List ℕ → Bool) → T (every_list n f) → (l : List ℕ) → Within n l → NoneTwice l → T (f l)
every_list_so zero f t [] w o = t
every_list_so zero f t (x ∷ l) w o = let w0 = w.0 in absurd (let z : ⊥ = omega arith in z)
every_list_so (suc n) f t l w o = elim (split n l) [
  | inl (before, after, e) ↦
      let o' = none_twice_out before n after (subst NoneTwice e o) in
      let w' = each_out (λ x. x < suc n) before n after (subst (Within (suc n)) e w) in
      rw e (every_place_so n before after f (both (f (before ++ after)) (every_place n (before ++ after) f)
      (every_list_so n (λ r. f r && every_place n r f) t (before ++ after) (below_less n (before ++ after) w'.1 o'.0) o'.1)).1)
  | inr a ↦ (both (f l) (every_place n l f) (every_list_so n (λ r. f r && every_place n r f) t l (below_less n l w a) o)).0
]

pub every_list_back : (n : ℕ) (f : List ℕ → Bool) → ((l : List ℕ) → T (f l)) → T (every_list n f)
every_list_back zero f h = h []
every_list_back (suc n) f h = every_list_back n (λ l. f l && every_place n l f) (λ l. and (f l) (every_place n l f) (h l) (every_place_back n l f h))
