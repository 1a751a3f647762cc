-- Completeness: whatever way a route goes on, its ends are ordered, or the search finds it.
-- Assumes nothing.
use mathlib.Core.List.{List, [], ◌∷◌, ◌++◌, append_assoc, append-nil}
use mathlib.Core.Logic.{◌⊎◌, inl, inr, ⊎_elim, ◌≢◌}
use mathlib.Core.Path.{refl}
use Prim.Native.Nat.{ℕ}
use Rattle.flags.specs.Flag.{flag}
use Rattle.graph.specs.Held.{Absent, Follows, NoneTwice, Ordered}
use Rattle.graph.proofs.Splits.{bool}
use Rattle.graph.proofs.Walked.{Apart, apart_cons, each_split}
use Rattle.step.specs.Rest.{GoesOn, ends, goes}
use Rattle.walk.specs.Asked.{Lists}
use Rattle.walk.proofs.Carried.{Carried, carried_on}

absent_last : (x : ℕ) (rest : List ℕ) (b : ℕ) → Absent x (rest ++ b ∷ []) → x ≢ b
absent_last x rest b p = (each_split (λ y. x ≢ y) rest (b ∷ []) p).1.0

module _ (succ fits : List ℕ) (a goal : ℕ) where
  pub found_or_ordered : (rest : List ℕ) (p : ℕ) {path seen : List ℕ} {visited after : ℕ} → Carried fits a path seen visited after
      → Follows (Lists succ) p rest goal → NoneTwice (rest ++ goal ∷ []) → Apart path (rest ++ goal ∷ [])
      → Ordered (Lists fits) a (seen ++ rest) goal ⊎ GoesOn succ fits goal visited after p (rest ++ goal ∷ [])
  found_or_ordered [] p {path} {seen} {visited} {after} s f o q =
      ⊎_elim (λ e. inl (rw append-nil (s.late goal e))) (λ e. inr (goal, f, ends (s.old goal q.0) refl e)) (bool (flag after goal))
  found_or_ordered (x ∷ rest) p {path} {seen} {visited} {after} s f o q =
      ⊎_elim (λ h. inl (rw (append_assoc seen (x ∷ []) rest) at h))
      (λ (k, h, t). inr (x, f.0, goes (s.old x q.0) (absent_last x rest goal o.0) h t))
      (found_or_ordered rest x (carried_on fits a x s) f.1 o.1 (apart_cons x path (rest ++ goal ∷ []) o.0 q.1))
