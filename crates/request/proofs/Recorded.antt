-- A record at an offset, and records in a row.
-- Assumes nothing.
use mathlib.Core.Bool.{false, true}
use mathlib.Core.List.{List}
use mathlib.Core.Logic.{⊎_elim}
use mathlib.Core.Path.{◌∙◌, ◌≡◌, refl, subst, sym}
use Prim.Native.Nat.{◌*◌, ◌+◌, ◌-◌, ◌<◌, ◌≤◌, suc, zero, ℕ}
use native.Mathlib.Nat.{add-mul, one-mul}
use native.Mathlib.Omega.{arith}
use lib.Dec.{T}
use lib.ListN.{drop, get_or, length}
use borrow.Author.Tests.{le-leb, lt-leb}
use Rattle.request.specs.declared.Mark.{Mark}
use Rattle.request.specs.declared.Mark.TheVariants.{Nd, Ed, Ru, Or}
use Rattle.request.specs.Layout.{in_row, marked, record_at, width}
use Rattle.graph.proofs.Says.{says_and, says_eq}
use Rattle.graph.proofs.Splits.{lt_or_ge, true_false}

pub mark_of : (a b : ℕ) (t : List ℕ) → marked a b t ≡ true → (get_or t 0 0 ≡ a) × (get_or t 1 0 ≡ b)
mark_of a b t e = (says_and (says_eq (get_or t 0 0) a) (says_eq (get_or t 1 0) b)).so (subst T (sym e) tt)

module _ (a b z : ℕ) (s : List ℕ) (at : ℕ) where
  pub record_short : length s < at + z → record_at a b z s at ≡ false
  unfolding record_at
  record_short h = simp (lt-leb _ _ h)

  pub record_within : at + z ≤ length s → record_at a b z s at ≡ marked a b (drop at s)
  unfolding record_at
  record_within h = simp (le-leb _ _ h)

  pub record_fits : record_at a b z s at ≡ true → at + z ≤ length s
  record_fits e = ⊎_elim (λ h. true_false e (record_short h)) (λ h. h) (lt_or_ge (length s) (at + z))

  pub record_marked : record_at a b z s at ≡ true → marked a b (drop at s) ≡ true
  record_marked e = sym (record_within (record_fits e)) ∙ e

-- a record has more than its letters
pub wide : (m : Mark) → 2 ≤ width m
wide Nd = omega arith
wide Ed = omega arith
wide Ru = omega arith
wide Or = omega arith

pub row_more : (a b z : ℕ) (s : List ℕ) (f at : ℕ) → 0 < f → record_at a b z s at ≡ true → in_row a b z s f at ≡ suc (in_row a b z s (f - 1) (at + z))
unfolding in_row
row_more a b z s zero at h e = absurd (omega arith)
row_more a b z s (suc f) at h e = let q : f ≡ suc f - 1 = omega arith in rw (e, ← q)

pub row_stop : (a b z : ℕ) (s : List ℕ) (f at : ℕ) → record_at a b z s at ≡ false → in_row a b z s f at ≡ 0
unfolding in_row
row_stop a b z s zero at e = refl
row_stop a b z s (suc f) at e = rw e

-- what is known after k records in a row from `at` on, the next offset being p
pub record Counting (a b z : ℕ) (s : List ℕ) (at k p : ℕ) : Type 0 where
  pub next : p ≡ at + k * z
  pub slow : k ≤ p
  pub within : p ≤ length s
  pub whole : in_row a b z s (length s) at ≡ k + in_row a b z s (length s - k) p

module _ {a b z : ℕ} {s : List ℕ} {at : ℕ} where
  pub counting_more : {k p : ℕ} → 2 ≤ z → record_at a b z s p ≡ true → Counting a b z s at k p → Counting a b z s at (k + 1) (p + z)
  counting_more {k} {p} l e r =
      let h = record_fits a b z s p e in
      let q : length s - (k + 1) ≡ length s - k - 1 = omega arith in
      record {
        next = omega (arith, r.next, add-mul k 1 z, one-mul z);
        slow = omega (arith, r.slow);
        within = h;
        whole = r.whole ∙ rw q (omega (arith, row_more a b z s (length s - k) p (omega (arith, r.slow)) e));
      }

  pub counting_end : {k p : ℕ} → record_at a b z s p ≡ false → Counting a b z s at k p → k ≡ in_row a b z s (length s) at
  counting_end {k} {p} e r = omega (arith, r.whole, row_stop a b z s (length s - k) p e)
