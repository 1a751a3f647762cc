-- The flags of a number as a list: one that is put in is set in the list. And the edges of a route as a set.
-- Assumes nothing.
use mathlib.Core.Bool.{Bool, true, false, true≢false}
use mathlib.Core.List.{List, ◌∷◌}
use mathlib.Core.Logic.{⊎_elim}
use mathlib.Core.Path.{◌≡◌, refl, sym, ap, ap₂, subst, ◌∙◌}
use Prim.Native.Nat.{ℕ, zero, suc, ◌+◌, ◌<◌, ◌≤◌}
use native.Mathlib.Omega.{arith}
use lib.ListN.{length, get_or, set, replicate}
use lib.Seq.{ext_get_or}
use borrow.Author.Count.{below_more}
use Rattle.graph.proofs.Splits.{lt_or_ge}
use Rattle.flags.specs.Flag.{flag, put}
use Rattle.flags.proofs.Digit.{flag_zero}
use Rattle.flags.proofs.Put.{put_same, put_other, put_cases, put_keeps}
use Rattle.sets.specs.Whole.{whole}
use Rattle.std.specs.Array.{IsFromFnResult, IsFromFnResultFrom}
use Rattle.std.specs.Fn.{Mut, Called}
use Rattle.std.specs.Prelude.{Option, Some, None}
use Rattle.lightest.specs.declared.pack.Packing.{Packing}
use Rattle.lightest.specs.Made.{Cut, flags_from}
use Rattle.lightest.specs.Search.{Bounded, Addable, Marks, Levelled}

pub flags_long : (k n w : ℕ) → length (flags_from k n w) ≡ n
unfolding flags_from
flags_long k zero w = refl
flags_long k (suc n) w = ap suc (flags_long (suc k) n w)

flags_from_lem : (k n w e : ℕ) → e < n → get_or (flags_from k n w) e false ≡ flag w (k + e)
unfolding flags_from
flags_from_lem k zero w e h = absurd (omega (arith, h))
flags_from_lem k (suc n) w zero h = let z : k ≡ k + 0 = omega arith in ap (flag w) z
flags_from_lem k (suc n) w (suc e) h = let z : suc k + e ≡ k + suc e = omega arith in flags_from_lem (suc k) n w e (omega (arith, h)) ∙ ap (flag w) z

pub flags_at : (n w e : ℕ) → e < n → get_or (flags_from 0 n w) e false ≡ flag w e
flags_at n w e h = let z : 0 + e ≡ e = omega arith in flags_from_lem 0 n w e h ∙ ap (flag w) z

flags_above : (k n w e : ℕ) → e < k → flags_from k n (put w e) ≡ flags_from k n w
unfolding flags_from
flags_above k zero w e h = refl
flags_above k (suc n) w e h = ap₂ (λ (b : Bool) (l : List Bool). b ∷ l) (put_other w e k (λ z. omega (arith, z, h)))
    (flags_above (suc k) n w e (omega (arith, h)))

flags_put : (k n w e : ℕ) → e < n → flags_from k n (put w (k + e)) ≡ set (flags_from k n w) e true
unfolding flags_from
flags_put k zero w e h = absurd (omega (arith, h))
flags_put k (suc n) w zero h =
    let z : k + 0 ≡ k = omega arith in
    ap (λ (x : ℕ). flags_from k (suc n) (put w x)) z ∙ ap₂ (λ (b : Bool) (l : List Bool). b ∷ l) (put_same w k) (flags_above (suc k) n w k (omega arith))
flags_put k (suc n) w (suc e) h =
    let z : k + suc e ≡ suc k + e = omega arith in
    ap₂ (λ (b : Bool) (l : List Bool). b ∷ l) (put_other w (k + suc e) k (λ y. omega (arith, y)))
    (ap (λ (x : ℕ). flags_from (suc k) n (put w x)) z ∙ flags_put (suc k) n w e (omega (arith, h)))

pub flags_set : (n w e : ℕ) → e < n → flags_from 0 n (put w e) ≡ set (flags_from 0 n w) e true
flags_set n w e h = let z : 0 + e ≡ e = omega arith in ap (λ (x : ℕ). flags_from 0 n (put w x)) (sym z) ∙ flags_put 0 n w e h

-- a list is known by its flags
pub flags_same : (n w : ℕ) (l : List Bool) → length l ≡ n → ((j : ℕ) → j < n → get_or l j false ≡ flag w j) → l ≡ flags_from 0 n w
flags_same n w l e f = ext_get_or false l (flags_from 0 n w) (e ∙ sym (flags_long 0 n w))
    (λ j h. f j (omega (arith, h, e)) ∙ sym (flags_at n w j (omega (arith, h, e))))

-- a list whose items a function gives one by one, which stays as it is: each item is the flag of its place
module _ {F : Type 0} {g : Mut F (ℕ × Unit {0}) Bool} {f : F} (w : ℕ) (gives : (i : ℕ) (y : Bool) (q : F) → Called g f (i, tt) y q → (y ≡ flag w i) × (q ≡ f)) where
  made_at : (ys : List Bool) (i n : ℕ) → IsFromFnResultFrom g f ys i n → (j : ℕ) → i ≤ j → j < i + n → get_or ys j false ≡ flag w j
  made_at ys i zero h j l b = absurd (omega arith)
  made_at ys i (suc n) (q, y, at, call, rest) j l b =
      let k = gives i y q call in
      ⊎_elim (λ (e : i < j). made_at ys (i + 1) n (subst (λ (x : F). IsFromFnResultFrom g x ys (i + 1) n) k.1 rest) j (omega arith) (omega arith))
      (λ e. let z : j ≡ i = omega arith in ap (λ (x : ℕ). get_or ys x false) z ∙ at.1 false ∙ k.0 ∙ ap (flag w) (sym z)) (lt_or_ge i j)

  pub flags_made : (n : ℕ) (ys : List Bool) → IsFromFnResult g f ys n → ys ≡ flags_from 0 n w
  flags_made n ys h = flags_same n w ys h.long (λ j b. made_at ys 0 n h.each j (omega arith) (omega arith))

pub flags_none : (k n : ℕ) → flags_from k n 0 ≡ replicate n false
unfolding flags_from
flags_none k zero = refl
flags_none k (suc n) = ap₂ (λ (b : Bool) (l : List Bool). b ∷ l) (flag_zero k) (flags_none (suc k) n)

-- a route as a set; none where it has no edge
abbrev pub Routed : List ℕ → Option (List ℕ) → Type 0
Routed route (Some w) = (0 < length route) × Marks route (length route) (whole w)
Routed route None = length route ≡ 0

pub marks_none : (route : List ℕ) (w : ℕ) → w ≡ 0 → Marks route 0 w
marks_none route w z = rw z record { all = λ k h. absurd (omega (arith, h)); only = λ e h. absurd (true≢false (sym h ∙ flag_zero e)) }

-- edge by edge of a route
pub marks_more : {route : List ℕ} {i w w' e : ℕ} → Marks route i w → e ≡ get_or route i 0 → w' ≡ put w e → Marks route (i + 1) w'
marks_more {route} {i} {w} {w'} {e} m at p = rw p record {
  all = below_more (λ (k : ℕ). flag (put w e) (get_or route k 0) ≡ true) i (λ k b. put_keeps w e (get_or route k 0) (m.all k b))
      (ap (flag (put w e)) (sym at) ∙ put_same w e);
  only = λ x h. ⊎_elim (λ (q : x ≡ e). (i, omega arith, sym at ∙ sym q)) (λ q. let k = m.only x q in (k.0, omega (arith, k.1), k.2)) (put_cases w e x h);
}

-- a bound with its route as a set
pub levelled : (ws : List ℕ) (P : List Bool → Type 0) (s : Cut) (b : Packing) (r : Option (List ℕ)) → Bounded ws P s b → Routed b.route.items r
    → Levelled ws P s (record { route = r; sum = b.sum })
levelled ws P s b None o z = record { packed = (b.left, o.packed); onward = o.none z }
levelled ws P s b (Some w) o (h, m) = record {
  packed = (b.left, o.packed);
  onward = (
    λ e f. let k = m.only e f in subst (Addable ws s.chosen) k.2 ((o.next h).edge k.0 k.1),
    λ t p. let k = (o.next h).must t p in (get_or b.route.items k.0 0, m.all k.0 k.1, k.2),
  );
}
