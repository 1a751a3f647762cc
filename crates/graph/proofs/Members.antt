-- What is in a list stands at a place of it.
-- Assumes nothing.
use mathlib.Core.List.Memᴰ
use mathlib.Core.List.{List, [], ◌∷◌, Memᴰ}
use mathlib.Core.Logic.{⊎_elim}
use mathlib.Core.Path.{◌≡◌, refl}
use Prim.Native.Nat.{ℕ, zero, suc, ◌<◌}
use native.Mathlib.Omega.{arith}
use lib.ListN.{length, get_or}

module _ {A : Type 0} (d : A) where
  pub at_mem : (l : List A) (i : ℕ) → i < length l → Memᴰ (get_or l i d) l
  at_mem [] i h = absurd (omega arith)
  at_mem (x ∷ l) zero h = Memᴰ.head refl
  at_mem (x ∷ l) (suc i) h = Memᴰ.tail (at_mem l i (omega arith))

  pub mem_at : (l : List A) {x : A} → Memᴰ x l → (i : ℕ) × (i < length l) × (x ≡ get_or l i d)
  mem_at [] m = absurd (Memᴰ.not-nil m)
  mem_at (y ∷ l) m =
      ⊎_elim (λ e. (0, omega arith, e)) (λ k. let r = mem_at l k in (suc r.0, omega (arith, r.1), r.2)) (Memᴰ.cases_cons m)
