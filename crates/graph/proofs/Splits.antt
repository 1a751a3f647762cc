-- Case splits on numbers and on Booleans.
-- Assumes nothing.
use mathlib.Core.Bool.{Bool, true, false, true≢false}
use mathlib.Core.Logic.{◌⊎◌, inl, inr}
use mathlib.Core.Path.{◌≡◌, refl, sym, ◌∙◌}
use Prim.Native.Nat.{ℕ, ◌<◌, ◌≤◌}
use native.Mathlib.Decide.{dec_le}
use native.Mathlib.Omega.{arith}

pub lt_or_ge : (a b : ℕ) → (a < b) ⊎ (b ≤ a)
lt_or_ge a b = elim (dec_le b a) [ yes p ↦ inr p | no f ↦ inl (omega (arith, f)) ]

pub tri : (a b : ℕ) → (a < b) ⊎ ((a ≡ b) ⊎ (b < a))
tri a b = elim (lt_or_ge a b) [ inl h ↦ inl h | inr h ↦ elim (lt_or_ge b a) [ inl k ↦ inr (inr k) | inr k ↦ inr (inl (omega arith)) ] ]

pub bool : (b : Bool) → (b ≡ true) ⊎ (b ≡ false)
bool true = inl refl
bool false = inr refl

pub true_false : {X : Type 0} {b : Bool} → b ≡ true → b ≡ false → X
true_false p q = absurd (true≢false (sym p ∙ q))
