-- The cut: least weight, and of those the first by its rising list.
-- Assumes nothing.
use Rattle.std.specs.Prelude.{◌≡◌, ◌⊎◌, ℕ, suc, ◌+◌, ◌≤◌, ◌<◌, length}
use mathlib.Core.List.{List, [], ◌∷◌, Memᴰ}
use Rattle.graph.specs.declared.Order.{Order}
use Rattle.graph.specs.declared.Rule.{Rule}
use Rattle.graph.specs.Graph.{Graph, edge}
use Rattle.graph.specs.Held.{HeldWithout}

-- a set of numbers from lo up to and without m, as its "rising list"
abbrev pub Rising : ℕ → ℕ → List ℕ → Type 0
Rising lo m [] = Unit {0}
Rising lo m (x ∷ xs) = (lo ≤ x) × (x < m) × Rising (suc x) m xs

-- "comes first, compared place by place": before the other, or the same
abbrev pub First : List ℕ → List ℕ → Type 0
First [] ys = Unit {0}
First (x ∷ xs) [] = ⊥
First (x ∷ xs) (y ∷ ys) = (x < y) ⊎ ((x ≡ y) × First xs ys)

-- "has least weight; of those, the one whose rising list of edge numbers comes first"
pub record Best (Among : List ℕ → Type 0) (weigh : List ℕ → ℕ) (c : List ℕ) : Type 0 where
  pub among : Among c
  pub least : (d : List ℕ) → Among d → weigh c ≤ weigh d
  pub first : (d : List ℕ) → Among d → weigh c ≡ weigh d → First c d

-- request 7: "A cut should have to meet only those routes of an open order that don't order its ends". So each route on none of c orders its order's ends; of a held order all do
abbrev pub Separates : Graph → List Rule → List Order → List ℕ → Type 0
Separates g rules orders c = (o : Order) → Memᴰ o orders → HeldWithout g rules c o.first o.second

-- "A cut is a set of edges such that, without them", each asked order has only routes that order its ends
pub record Cut (g : Graph) (rules : List Rule) (orders : List Order) (c : List ℕ) : Type 0 where
  pub rising : Rising 0 (length g.edges) c
  pub separates : Separates g rules orders c

-- "the sum of": what w gives for each of these, added up
abbrev pub total : (ℕ → ℕ) → List ℕ → ℕ
total w [] = 0
total w (i ∷ c) = w i + total w c

-- "Its weight is the sum of its edges' weights."
abbrev pub weight : Graph → List ℕ → ℕ
weight g c = total (λ i. (edge g i).weight) c

-- "The chosen cut has least weight; of those, the one whose rising list of edge numbers comes first"
abbrev pub ChosenCut : Graph → List Rule → List Order → List ℕ → Type 0
ChosenCut g rules orders c = Best (Cut g rules orders) (weight g) c
