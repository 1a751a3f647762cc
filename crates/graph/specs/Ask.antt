-- What ask shows: nothing where the order is held, else a route.
-- Assumes nothing.
use Rattle.std.specs.Prelude.{List, [], ◌∷◌, ◌++◌, ℕ}
use Rattle.graph.specs.declared.Order.{Order}
use Rattle.graph.specs.declared.Rule.{Rule}
use Rattle.graph.specs.Graph.{Graph}
use Rattle.graph.specs.Held.{Route, Orders, HeldWithout}
use Rattle.graph.specs.Cut.{First}

-- "its nodes": those of a route, both ends counted
abbrev pub along : ℕ → List ℕ → ℕ → List ℕ
along a between b = a ∷ between ++ (b ∷ [])

-- "among its routes that don't order its ends, the one first by node numbers place by place". Here: of those on none of the edges in c
pub record ShownWithout (g : Graph) (rules : List Rule) (c : List ℕ) (a : ℕ) (between : List ℕ) (b : ℕ) : Type 0 where
  pub route : Route g c a between b
  pub unordered : ¬ Orders g rules a between b
  pub first : (other : List ℕ) → Route g c a other b → ¬ Orders g rules a other b → First (along a between b) (along a other b)

-- "Length 0 means held. An open order shows [that route]"
pub data AskedWithout (g : Graph) (rules : List Rule) (c : List ℕ) (a b : ℕ) : List ℕ → Type 0 where
  is_held : HeldWithout g rules c a b → AskedWithout g rules c a b []
  is_open : {between : List ℕ} → ShownWithout g rules c a between b → AskedWithout g rules c a b (along a between b)

-- "says whether one order is held, and shows a route where it isn't": on all edges, none left out
abbrev pub Asked : Graph → List Rule → Order → List ℕ → Type 0
Asked g rules o route = AskedWithout g rules [] o.first o.second route
