-- What a scan of numbers looks for.
-- Assumes nothing.
use Rattle.std.specs.Prelude.{Option, Some, None, ℕ, ◌<◌, ◌≤◌}

-- r is the first number from lo on, below n, with P; n where there is none
pub record FirstFrom (P : ℕ → Type 0) (lo n r : ℕ) : Type 0 where
  pub low : lo ≤ r
  pub high : r ≤ n
  pub none : (j : ℕ) → lo ≤ j → j < r → P j → ⊥
  pub here : r < n → P r

-- the same, with no number where there is none
abbrev pub FirstIn : (ℕ → Type 0) → ℕ → ℕ → Option ℕ → Type 0
FirstIn P lo n (Some r) = (lo ≤ r) × (r < n) × P r × ((j : ℕ) → lo ≤ j → j < r → P j → ⊥)
FirstIn P lo n None = (j : ℕ) → lo ≤ j → j < n → P j → ⊥
