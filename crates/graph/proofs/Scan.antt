-- A scan for the first number with a property, one number at a time.
-- Assumes nothing.
use mathlib.Core.Path.{subst}
use Prim.Native.Nat.{◌+◌, ◌<◌, ◌≤◌, ℕ}
use native.Mathlib.Decide.{ℕ_discrete}
use native.Mathlib.Omega.{arith}
use Rattle.graph.specs.Scan.{FirstFrom}

-- those from lo up to i have not P
abbrev pub Passed : (ℕ → Type 0) → ℕ → ℕ → Type 0
Passed P lo i = (j : ℕ) → lo ≤ j → j < i → P j → ⊥

module _ (P : ℕ → Type 0) (lo : ℕ) where
  pub passed_none : Passed P lo lo
  passed_none j a b p = absurd (let z : ⊥ = omega arith in z)

  pub passed_more : (i : ℕ) → Passed P lo i → (P i → ⊥) → Passed P lo (i + 1)
  passed_more i f h j a b p = elim (ℕ_discrete j i) [ yes e ↦ h (subst P e p) | no e ↦ f j a (omega (arith, e)) p ]

  pub first_here : (n i : ℕ) → lo ≤ i → i < n → Passed P lo i → P i → FirstFrom P lo n i
  first_here n i a b f p = record { low = a; high = omega arith; none = f; here = λ l. p }

  pub first_none : (n i : ℕ) → lo ≤ i → i ≤ n → n ≤ i → Passed P lo i → FirstFrom P lo n i
  first_none n i a b d f = record { low = a; high = b; none = f; here = λ l. absurd (let z : ⊥ = omega arith in z) }

  -- one number lower
  pub first_lower : (n r : ℕ) → FirstFrom P (lo + 1) n r → (P lo → ⊥) → FirstFrom P lo n r
  first_lower n r f not-lo = record { low = omega (arith, f.low); high = f.high; none = passed; here = f.here }
    where
      passed : Passed P lo r
      passed j a b p = elim (ℕ_discrete j lo) [ yes e ↦ not-lo (subst P e p) | no e ↦ f.none j (omega (arith, e)) b p ]
