-- When a rule fits two labels.
-- Assumes nothing.
use Rattle.std.specs.Prelude.{◌≡◌, ℕ}
use mathlib.Core.List.{List, Memᴰ}
use Rattle.graph.specs.declared.Label.{Label}
use Rattle.graph.specs.declared.Label.TheVariants.{Store, Load, Fence}
use Rattle.graph.specs.declared.Side.{Side}
use Rattle.graph.specs.declared.Side.TheVariants.{Any, Is}
use Rattle.graph.specs.declared.Rule.{Rule}

-- "its sides match them under one assignment of addresses to variables. The wildcard matches every label, fences too."
abbrev pub Matches : (ℕ → ℕ) → Side → Label → Type 0
Matches σ Any l = Unit {0}
Matches σ (Is (Store x)) (Store a) = σ x ≡ a
Matches σ (Is (Store x)) (Load a) = ⊥
Matches σ (Is (Store x)) Fence = ⊥
Matches σ (Is (Load x)) (Store a) = ⊥
Matches σ (Is (Load x)) (Load a) = σ x ≡ a
Matches σ (Is (Load x)) Fence = ⊥
Matches σ (Is Fence) (Store a) = ⊥
Matches σ (Is Fence) (Load a) = ⊥
Matches σ (Is Fence) Fence = Unit {0}

-- "A rule fits two labels if its sides match them under one assignment .. Variables 1 and 2 may have the same address."
abbrev pub Fits : Rule → Label → Label → Type 0
Fits r p q = (σ : ℕ → ℕ) × Matches σ r.left p × Matches σ r.right q

-- "some rule fits their labels"
abbrev pub Ruled : List Rule → Label → Label → Type 0
Ruled rules p q = (r : Rule) × Memᴰ r rules × Fits r p q
