-- What the walk shows of an order.
-- Assumes nothing.
use Rattle.std.specs.Prelude.{true, Option, Some, None, List, [], ◌≡◌, ℕ}
use Rattle.short_list.specs.ShortList.{ShortList}
use Rattle.graph.specs.declared.Rule.{Rule}
use Rattle.graph.specs.Ask.{along, AskedWithout}
use Rattle.graph.specs.Graph.{Graph}
use Rattle.graph.specs.Held.{Follows, NoneTwice, Ordered}
use Rattle.words.specs.Words.{listed, WordsOf}

-- what is shown of the order (a, b), whatever graph these tables are of
abbrev pub AskedOf : List ℕ → List ℕ → ℕ → ℕ → List ℕ → Type 0
AskedOf succ fits a b route = (g : Graph) (rules : List Rule) (c : List ℕ) → WordsOf g rules c succ fits → AskedWithout g rules c a b route

-- the nodes of the route shown; none where none is
abbrev pub shown : Option (ShortList ℕ) → List ℕ
shown None = []
shown (Some route) = route.items

-- ---- and of these tables alone, be they a graph's or not

-- q is in the row of p
abbrev pub Lists : List ℕ → ℕ → ℕ → Type 0
Lists words p q = listed words p q ≡ true

-- a route from a to b by the table of steps
pub record Passes (succ : List ℕ) (a : ℕ) (between : List ℕ) (b : ℕ) : Type 0 where
  pub follows : Follows (Lists succ) a between b
  pub once : NoneTwice (along a between b)

-- no node, and each route orders its ends; or the nodes of one that does not
pub data ByTables (succ fits : List ℕ) (a b : ℕ) : List ℕ → Type 0 where
  all_ordered : ((between : List ℕ) → Passes succ a between b → Ordered (Lists fits) a between b) → ByTables succ fits a b []
  one_unordered : {between : List ℕ} → Passes succ a between b → (Ordered (Lists fits) a between b → ⊥) → ByTables succ fits a b (along a between b)
