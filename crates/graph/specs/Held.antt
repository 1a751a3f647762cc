-- When an order is held: routes, and what is ordered on them.
-- Assumes nothing.
use Rattle.std.specs.Prelude.{◌≡◌, ◌≢◌, List, [], ◌∷◌, ◌++◌, ℕ, ◌<◌, length}
use Rattle.graph.specs.declared.Label.{Label}
use Rattle.graph.specs.declared.Order.{Order}
use Rattle.graph.specs.declared.Rule.{Rule}
use Rattle.graph.specs.Fit.{Ruled}
use Rattle.graph.specs.Graph.{Graph, label, edge}

-- for "no node twice": P is so of each of these
abbrev pub Each : (ℕ → Type 0) → List ℕ → Type 0
Each P [] = Unit {0}
Each P (y ∷ ys) = P y × Each P ys

-- "no node twice": x is none of these
abbrev pub Absent : ℕ → List ℕ → Type 0
Absent x ys = Each (λ y. x ≢ y) ys

-- for "nodes .. are numbered from 0": each of these is below m
abbrev pub Within : ℕ → List ℕ → Type 0
Within m ys = Each (λ y. y < m) ys

-- "visits no node twice": each is none of those after it
abbrev pub NoneTwice : List ℕ → Type 0
NoneTwice [] = Unit {0}
NoneTwice (x ∷ xs) = Absent x xs × NoneTwice xs

-- "follows edges": an edge leads from x to y, and it is none of those in c
abbrev pub Step : Graph → List ℕ → ℕ → ℕ → Type 0
Step g c x y = (i : ℕ) × (i < length g.edges) × Absent i c × ((edge g i).from ≡ x) × ((edge g i).to ≡ y)

-- "from a to b": through those between, each by a step from the one before
abbrev pub Follows : (ℕ → ℕ → Type 0) → ℕ → List ℕ → ℕ → Type 0
Follows S a [] b = S a b
Follows S a (x ∷ between) b = S a x × Follows S x between b

-- "A route from a to b follows edges from a to b and visits no node twice." Here: on none of the edges in c
pub record Route (g : Graph) (c : List ℕ) (a : ℕ) (between : List ℕ) (b : ℕ) : Type 0 where
  pub follows : Follows (Step g c) a between b
  pub once : NoneTwice (a ∷ between ++ (b ∷ []))

-- "node p is ordered before a later node q if some rule fits their labels, or if a node between them on the route is ordered after p and before q"
pub data Ordered (Fit : ℕ → ℕ → Type 0) : ℕ → List ℕ → ℕ → Type 0 where
  by_rule : {p q : ℕ} {between : List ℕ} → Fit p q → Ordered Fit p between q
  by_way : {p q : ℕ} {between : List ℕ} (k : ℕ) (before after : List ℕ) → between ≡ before ++ k ∷ after
      → Ordered Fit p before k → Ordered Fit k after q → Ordered Fit p between q

-- "On a route, node p is ordered before a later node q": its first before its last, the nodes so labelled
abbrev pub Linked : List Rule → (ℕ → Label) → ℕ → List ℕ → ℕ → Type 0
Linked rules l a between b = Ordered (λ p q. Ruled rules (l p) (l q)) a between b

-- "on every route from a to b, a is ordered before b": it is on this one
abbrev pub Orders : Graph → List Rule → ℕ → List ℕ → ℕ → Type 0
Orders g rules a between b = Linked rules (label g) a between b

-- "on every route from a to b, a is ordered before b". Here: on those on none of the edges in c
abbrev pub HeldWithout : Graph → List Rule → List ℕ → ℕ → ℕ → Type 0
HeldWithout g rules c a b = (between : List ℕ) → Route g c a between b → Orders g rules a between b

-- "An order (a, b) is held if on every route from a to b, a is ordered before b. With no route it is held."
abbrev pub Held : Graph → List Rule → Order → Type 0
Held g rules o = HeldWithout g rules [] o.first o.second

-- "The open orders are those asked and not held."
abbrev pub Open : Graph → List Rule → Order → Type 0
Open g rules o = ¬ Held g rules o
