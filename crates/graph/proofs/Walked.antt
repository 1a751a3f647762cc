-- Laws for the code's walk: what is walked so far, and what may follow.
-- Assumes nothing.
use mathlib.Core.List.{List, [], ◌∷◌, ◌++◌}
use mathlib.Core.Logic.{◌≢◌}
use mathlib.Core.Path.{sym}
use Prim.Native.Nat.{ℕ}
use Rattle.graph.specs.Held.{Each, Absent, NoneTwice, Follows}

pub follows_up : {S S' : ℕ → ℕ → Type 0} → ((p q : ℕ) → S p q → S' p q) → (a : ℕ) (between : List ℕ) (b : ℕ)
    → Follows S a between b → Follows S' a between b
follows_up up a [] b f = up a b f
follows_up up a (x ∷ between) b f = (up a x f.0, follows_up up x between b f.1)

-- none of the second list is in the first
abbrev pub Apart : List ℕ → List ℕ → Type 0
Apart seen rest = Each (λ x. Absent x seen) rest

pub each_append : (P : ℕ → Type 0) (xs ys : List ℕ) → Each P xs → Each P ys → Each P (xs ++ ys)
each_append P [] ys p q = q
each_append P (x ∷ xs) ys p q = (p.0, each_append P xs ys p.1 q)

pub each_split : (P : ℕ → Type 0) (xs ys : List ℕ) → Each P (xs ++ ys) → Each P xs × Each P ys
each_split P [] ys p = (tt, p)
each_split P (x ∷ xs) ys p = let r = each_split P xs ys p.1 in ((p.0, r.0), r.1)

pub apart_cons : (x : ℕ) (seen rest : List ℕ) → Absent x rest → Apart seen rest → Apart (x ∷ seen) rest
apart_cons x seen [] p q = tt
apart_cons x seen (y ∷ rest) p q = ((λ e. p.0 (sym e), q.0), apart_cons x seen rest p.1 q.1)

pub apart_uncons : (x : ℕ) (seen rest : List ℕ) → Apart (x ∷ seen) rest → Absent x rest × Apart seen rest
apart_uncons x seen [] p = (tt, tt)
apart_uncons x seen (y ∷ rest) p = let r = apart_uncons x seen rest p.1 in ((λ e. p.0.0 (sym e), r.0), (p.0.1, r.1))

pub apart_nil : (rest : List ℕ) → Apart [] rest
apart_nil [] = tt
apart_nil (x ∷ rest) = (tt, apart_nil rest)

pub none_twice_split : (seen rest : List ℕ) → NoneTwice (seen ++ rest) → NoneTwice seen × NoneTwice rest × Apart seen rest
none_twice_split [] rest o = (tt, o, apart_nil rest)
none_twice_split (x ∷ seen) rest o =
    let r = none_twice_split seen rest o.1 in
    let p = each_split (λ y. x ≢ y) seen rest o.0 in
    ((p.0, r.0), r.1, apart_cons x seen rest p.1 r.2)

pub none_twice_join : (seen rest : List ℕ) → NoneTwice seen → NoneTwice rest → Apart seen rest → NoneTwice (seen ++ rest)
none_twice_join [] rest o p q = p
none_twice_join (x ∷ seen) rest o p q =
    let r = apart_uncons x seen rest q in
    (each_append (λ y. x ≢ y) seen rest o.0 r.0, none_twice_join seen rest o.1 p r.1)
