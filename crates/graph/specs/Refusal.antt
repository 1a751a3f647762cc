-- Which refusal is given where several apply.
-- Assumes nothing.
use Rattle.std.specs.Prelude.{ℕ, ◌≤◌}

-- `Bad answer place`: this answer applies at this place. "Where several apply, the lowest answer wins, and within it the earliest place."
pub record Refused {A : Type 0} (rank : A → ℕ) (Bad : A → ℕ → Type 0) (answer : A) (place : ℕ) : Type 0 where
  pub bad : Bad answer place
  pub lowest : (a : A) (p : ℕ) → Bad a p → rank answer ≤ rank a
  pub earliest : (p : ℕ) → Bad answer p → place ≤ p
