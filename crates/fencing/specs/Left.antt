-- What is found while fences are taken off.
-- Assumes nothing.
use Rattle.std.specs.Prelude.{Option, Some, None, ◌≡◌, ◌<◌, ◌≤◌, ℕ, length}
use Rattle.graph.specs.Graph.{Graph}
use Rattle.graph.specs.Strip.{Loose, Stripped}

-- the highest node is loose, and that edge ends there; or no node is
abbrev pub Top : Graph → Option ℕ → Type 0
Top g (Some i) = (v : ℕ) × (m : ℕ) × Loose g v i m
Top g None = (v i m : ℕ) → ¬ Loose g v i m

-- what is left of g when fences are taken off until c nodes are left: n are, more than c only where the highest of them is not loose
pub record Off (g : Graph) (c n total : ℕ) (h : Graph) : Type 0 where
  pub stripped : Stripped g total h
  pub left : length h.nodes ≡ n
  pub enough : c ≤ n
  pub early : c < n → (v i m : ℕ) → ¬ Loose h v i m
