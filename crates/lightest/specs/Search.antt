-- What the functions of the search say of their results. P is what a cut must satisfy: nothing here looks inside it.
-- Assumes nothing.
use Rattle.std.specs.Prelude.{Bool, true, false, Option, Some, None, List, ◌≡◌, ◌⊎◌, ℕ, ◌+◌, ◌<◌, ◌≤◌, length, get_or}
use Rattle.flags.specs.Flag.{flag}
use Rattle.sets.specs.Whole.{rows, whole}
use Rattle.graph.specs.Limits.{most_edges, most_nodes}
use Rattle.route.specs.Way.{starts, ends, weights}
use Rattle.lightest.specs.declared.Problem.{Problem}
use Rattle.lightest.specs.declared.pack.Packing.{Packing}
use Rattle.lightest.specs.declared.search.Level.{Level}
use Rattle.lightest.specs.Apart.{Apart, firsts, seconds}
use Rattle.lightest.specs.Made.{Cut, Made}
use Rattle.lightest.specs.Sets.{Has, Edges, PartOf, weigh}

-- what each edge of a problem weighs
abbrev pub costs : Problem → List ℕ
costs problem = weights problem.net.edges.now

-- without the edges of t its pairs are kept apart
abbrev pub Parted : Problem → List Bool → Type 0
Parted problem = Apart (starts problem.net.edges.now) (ends problem.net.edges.now) (rows problem.net.fits.now) (firsts problem.pairs.now) (seconds problem.pairs.now)

-- the cuts that a branch of the search looks among: those that have the edges of s
pub record Branch (ws : List ℕ) (P : List Bool → Type 0) (s t : List Bool) : Type 0 where
  pub edges : Edges ws t
  pub good : P t
  pub has : PartOf s t

-- a route within the limits
pub record Fair (route : List ℕ) : Type 0 where
  pub short : length route ≤ most_nodes
  pub below : (k : ℕ) → k < length route → get_or route k 0 < most_edges

-- an edge that s has not
abbrev pub Addable : List ℕ → List Bool → ℕ → Type 0
Addable ws s e = (e < length ws) × (1 ≤ get_or ws e 0) × (get_or s e false ≡ false)

-- edges that s has none of, and of which every cut has one
pub record Missed (ws : List ℕ) (P : List Bool → Type 0) (s : List Bool) (route : List ℕ) : Type 0 where
  pub edge : (k : ℕ) → k < length route → Addable ws s (get_or route k 0)
  pub must : (t : List Bool) → P t → (k : ℕ) × (k < length route) × Has t (get_or route k 0)

-- what is left at first: nothing of the edges of s, all of any other
pub record Unspent (ws : List ℕ) (s : List Bool) (left : List ℕ) : Type 0 where
  pub none : (e : ℕ) → get_or s e false ≡ true → get_or left e 0 ≡ 0
  pub low : (e : ℕ) → get_or left e 0 ≤ get_or ws e 0
  pub full : (e : ℕ) → e < length ws → get_or s e false ≡ false → get_or left e 0 ≡ get_or ws e 0

-- an edge of the route of which no more is left than of any
pub record Tightest (route : List ℕ) (left : List ℕ) (e : ℕ) : Type 0 where
  pub on : (k : ℕ) × (k < length route) × (get_or route k 0 ≡ e)
  pub least : (k : ℕ) → k < length route → get_or left e 0 ≤ get_or left (get_or route k 0) 0

-- such an edge; none where the route has no edge
abbrev pub TightestOf : List ℕ → List ℕ → Option ℕ → Type 0
TightestOf route left (Some e) = Tightest route left e
TightestOf route left None = length route ≡ 0

-- a less at each edge of the route, and no more than before anywhere
pub record Reduced (route : List ℕ) (a : ℕ) (left left' : List ℕ) : Type 0 where
  pub long : length left' ≡ most_edges
  pub down : (e : ℕ) → get_or left' e 0 ≤ get_or left e 0
  pub less : (k : ℕ) → k < length route → a ≤ get_or left (get_or route k 0) 0
      → get_or left' (get_or route k 0) 0 + a ≤ get_or left (get_or route k 0) 0

-- the amounts packed and what is left weigh no more than the rest of any cut of the branch (weak duality)
abbrev pub Packed : List ℕ → (List Bool → Type 0) → Cut → List ℕ → ℕ → Type 0
Packed ws P s left sum = (t : List Bool) → Branch ws P s.chosen t → s.weight + sum + weigh left t ≤ weigh ws t

-- of two routes the first that has an edge
abbrev pub Earlier : List ℕ → List ℕ → List ℕ → Type 0
Earlier first r o = ((length first ≡ 0) × (o ≡ r)) ⊎ ((0 < length first) × (o ≡ first))

-- each edge weighs less than 2^16
abbrev pub Light : List ℕ → Type 0
Light ws = (e : ℕ) → get_or ws e 0 < 65536

-- what a packing tells of the branch of s: a bound, and a route to go on with, or that s is a cut
pub record Bounded (ws : List ℕ) (P : List Bool → Type 0) (s : Cut) (b : Packing) : Type 0 where
  pub light : Light ws
  pub fair : Fair b.route.items
  pub packed : Packed ws P s b.left b.sum
  pub none : length b.route.items ≡ 0 → P s.chosen
  pub next : 0 < length b.route.items → Missed ws P s.chosen b.route.items

-- w has the first n edges of the route, and no other
pub record Marks (route : List ℕ) (n w : ℕ) : Type 0 where
  pub all : (k : ℕ) → k < n → flag w (get_or route k 0) ≡ true
  pub only : (e : ℕ) → flag w e ≡ true → (k : ℕ) × (k < n) × (get_or route k 0 ≡ e)

-- edges that s has none of, as a set, and of which every cut has one; none where s is a cut
abbrev pub Onward : List ℕ → (List Bool → Type 0) → List Bool → Option (List ℕ) → Type 0
Onward ws P s (Some route) = ((e : ℕ) → flag (whole route) e ≡ true → Addable ws s e)
    × ((t : List Bool) → P t → (e : ℕ) × (flag (whole route) e ≡ true) × Has t e)
Onward ws P s None = P s

-- what a level knows of the branch of s: a bound, and edges to go on with, or that s is a cut
pub record Levelled (ws : List ℕ) (P : List Bool → Type 0) (s : Cut) (level : Level) : Type 0 where
  pub packed : (left : List ℕ) × Packed ws P s left level.sum
  pub onward : Onward ws P s.chosen level.route

-- a cut of the branch that is lighter than the limit, or the limit itself as its weight
pub record Capped (ws : List ℕ) (P : List Bool → Type 0) (s : Cut) (limit : ℕ) (c : Cut) : Type 0 where
  pub low : c.weight ≤ limit
  pub some : c.weight < limit → Made ws c × Branch ws P s.chosen c.chosen

-- such a one, than which no cut of the branch is lighter
pub record Picked (ws : List ℕ) (P : List Bool → Type 0) (s : Cut) (limit : ℕ) (c : Cut) : Type 0 where
  pub capped : Capped ws P s limit c
  pub least : (t : List Bool) → Branch ws P s.chosen t → c.weight ≤ weigh ws t
