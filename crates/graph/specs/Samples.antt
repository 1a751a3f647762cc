-- The sample graphs of document 01.
-- Assumes nothing.
use mathlib.Core.List.{List, [], ◌∷◌, ◌++◌, Memᴰ}
use Rattle.std.specs.Prelude.{◌≡◌, ℕ, ◌+◌, ◌*◌, length}
use Rattle.graph.specs.declared.Edge.{Edge}
use Rattle.graph.specs.declared.Label.TheVariants.{Fence, Load, Store}
use Rattle.graph.specs.declared.Order.{Order}
use Rattle.graph.specs.declared.Rule.{Rule}
use Rattle.graph.specs.declared.Side.{Side}
use Rattle.graph.specs.declared.Side.TheVariants.{Any, Is}
use Rattle.graph.specs.Ask.{Asked}
use Rattle.graph.specs.Cut.{Cut, ChosenCut, weight}
use Rattle.graph.specs.Graph.{Graph, Sound, no_graph, order}
use Rattle.graph.specs.Held.{Held, Route}
use Rattle.graph.specs.Strip.{StripTo}
use Rattle.graph.specs.Written.{written}

-- a rule from one side to the other
abbrev pub rule : Side → Side → Rule
rule l r = record { left = l; right = r }

-- the edge (j, k) of weight w
abbrev pub ed : ℕ → ℕ → ℕ → Edge
ed j k w = record { from = j; to = k; weight = w }

-- the order (a, b)
abbrev pub or : ℕ → ℕ → Order
or a b = record { first = a; second = b }

-- "only the two fence rules"
abbrev pub fence_rules : List Rule
fence_rules = rule Any (Is Fence) ∷ rule (Is Fence) Any ∷ []

-- "wildcard to fence, fence to wildcard, store 1 to store 2, load 1 to load 2"
abbrev pub d_rules : List Rule
d_rules = rule Any (Is Fence) ∷ rule (Is Fence) Any ∷ rule (Is (Store 1)) (Is (Store 2)) ∷ rule (Is (Load 1)) (Is (Load 2)) ∷ []

-- "Graph D: nodes 0 store 7, 1 store 9, 2 load 7, 3 load 9", with its first edge of weight w
abbrev pub d_of : ℕ → Graph
d_of w = record { nodes = Store 7 ∷ Store 9 ∷ Load 7 ∷ Load 9 ∷ []; edges = ed 0 1 w ∷ ed 1 2 1 ∷ ed 1 3 1 ∷ [] }

-- "orders (0,2), (0,3), (0,1)"
abbrev pub d_orders : List Order
d_orders = or 0 2 ∷ or 0 3 ∷ or 0 1 ∷ []

-- "Diamond: 0 store 1, 1 store 2, 2 fence, 3 load 3; edges (0,1), (1,3), (0,2), (2,3) of weight 1"
abbrev pub diamond : Graph
diamond = record { nodes = Store 1 ∷ Store 2 ∷ Fence ∷ Load 3 ∷ []; edges = ed 0 1 1 ∷ ed 1 3 1 ∷ ed 0 2 1 ∷ ed 2 3 1 ∷ [] }

-- "Loop: store 1, store 2, load 3; edges (0,1), (1,0), (1,2) of weight 1"
abbrev pub loop : Graph
loop = record { nodes = Store 1 ∷ Store 2 ∷ Load 3 ∷ []; edges = ed 0 1 1 ∷ ed 1 0 1 ∷ ed 1 2 1 ∷ [] }

-- a sample: what it is, and below what it claims
pub data Sample : Type 0 where
  -- with this graph, rules and orders: those are held, the cut is this, and its weight this
  ran : Graph → List Rule → List Order → (held : List Order) → (cut : List ℕ) → (total : ℕ) → Sample
  -- the number of the order asked, and the route shown; none where it is held
  asked : Graph → List Rule → List Order → (number : ℕ) → (route : List ℕ) → Sample
  -- what is written for that cut, stripped to so many nodes, is the graph again, and the weight is this
  off : (count : ℕ) → List Rule → List Order → Graph → (cut : List ℕ) → (total : ℕ) → Sample
  -- an order names a node that would go
  not_off : (count : ℕ) → List Rule → List Order → Graph → Sample
  -- these edges are a cut of that weight too
  tied : Graph → List Rule → List Order → (cut : List ℕ) → (total : ℕ) → Sample
  -- no route leads from the first of these nodes to the second
  no_route : Graph → (a b : ℕ) → Sample
  -- by its records the file has so many bytes
  long : Graph → List Rule → List Order → (size : ℕ) → Sample
  -- run for these orders, then for later ones on what it wrote, with these cuts, then stripped to the first node count: the graph again, and the weight
  twice : Graph → List Rule → (orders later : List Order) → (cut next : List ℕ) → (total : ℕ) → Sample

-- what a sample claims, of the definitions
abbrev pub Claim : Sample → Type 0
Claim (ran g rules orders held cut total) =
    Sound g × ((o : Order) → Memᴰ o held → Held g rules o) × ChosenCut g rules orders cut × (weight g cut ≡ total)
Claim (asked g rules orders number route) = Sound g × Asked g rules (order orders number) route
Claim (off count rules orders g cut total) = StripTo count orders (written g cut) total g
Claim (not_off count rules orders g) = (total : ℕ) (left : Graph) → ¬ StripTo count orders g total left
Claim (tied g rules orders cut total) = Cut g rules orders cut × (weight g cut ≡ total)
Claim (no_route g a b) = (between : List ℕ) → ¬ Route g [] a between b
Claim (long g rules orders size) = length g.nodes * 4 + length g.edges * 8 + length rules * 6 + length orders * 6 + 2 ≡ size
Claim (twice g rules orders later cut next total) =
    ChosenCut g rules orders cut × ChosenCut (written g cut) rules later next × StripTo (length g.nodes) later (written (written g cut) next) total g

-- P1 to P12
abbrev pub samples : List Sample
samples =
    ran (d_of 3) d_rules d_orders (or 0 1 ∷ []) (1 ∷ 2 ∷ []) 2  -- P1
    ∷ long (d_of 3) d_rules d_orders 84
    ∷ long (written (d_of 3) (1 ∷ 2 ∷ [])) d_rules d_orders 108
    ∷ ran (d_of 2) d_rules d_orders [] (0 ∷ []) 2  -- P2
    ∷ tied (d_of 2) d_rules d_orders (1 ∷ 2 ∷ []) 2
    ∷ ran (d_of 1) d_rules d_orders [] (0 ∷ []) 1  -- P3
    ∷ ran (d_of 3) (d_rules ++ (rule (Is (Store 1)) (Is (Load 1)) ∷ [])) d_orders d_orders [] 0  -- P4
    ∷ ran (d_of 3) d_rules (or 2 0 ∷ []) (or 2 0 ∷ []) [] 0  -- P5
    ∷ no_route (d_of 3) 2 0
    ∷ ran diamond d_rules (or 0 3 ∷ []) [] (0 ∷ []) 1  -- P6, with request 7: the other route has a fence
    ∷ ran loop fence_rules (or 0 2 ∷ []) [] (0 ∷ []) 1  -- P7
    ∷ ran no_graph fence_rules [] [] [] 0  -- P8
    ∷ long no_graph fence_rules [] 14
    ∷ asked (d_of 3) d_rules d_orders 0 (0 ∷ 1 ∷ 2 ∷ [])  -- P9
    ∷ asked (d_of 3) d_rules d_orders 2 []  -- P10
    ∷ off 4 d_rules d_orders (d_of 3) (1 ∷ 2 ∷ []) 2  -- P11
    ∷ not_off 3 d_rules d_orders (d_of 3)  -- P12
    ∷ []

-- what the plausible wrong programs of document 01 get wrong, beside P4 (the third) and P1 (the fifth)
abbrev pub more_samples : List Sample
more_samples =
    -- 1: two stores to one address, variables 1 and 2
    ran (record { nodes = Store 7 ∷ Store 7 ∷ []; edges = ed 0 1 1 ∷ [] }) d_rules (or 0 1 ∷ []) (or 0 1 ∷ []) [] 0
    -- one variable, two addresses
    ∷ ran
    (record { nodes = Store 7 ∷ Load 9 ∷ []; edges = ed 0 1 1 ∷ [] })
    (rule Any (Is Fence) ∷ rule (Is Fence) Any ∷ rule (Is (Store 1)) (Is (Load 1)) ∷ [])
    (or 0 1 ∷ [])
    []
    (0 ∷ [])
    1
    -- 2: the second route through node 2 has no fence
    ∷ ran
    (record { nodes = Store 1 ∷ Fence ∷ Store 2 ∷ Load 3 ∷ []; edges = ed 0 1 1 ∷ ed 1 2 1 ∷ ed 2 3 1 ∷ ed 0 2 1 ∷ [] })
    fence_rules
    (or 0 3 ∷ [])
    []
    (2 ∷ [])
    1
    -- 4: each order cut by itself would weigh 4
    ∷ ran
    (record { nodes = Store 7 ∷ Store 9 ∷ Load 7 ∷ Load 9 ∷ []; edges = ed 0 1 3 ∷ ed 1 2 2 ∷ ed 1 3 2 ∷ [] })
    d_rules
    d_orders
    []
    (0 ∷ [])
    3
    -- a route that a fence orders is left alone: to meet it too would weigh 32
    ∷ ran
    (record { nodes = Store 1 ∷ Store 2 ∷ Fence ∷ Store 3 ∷ Load 4 ∷ []; edges = ed 0 1 50 ∷ ed 1 2 40 ∷ ed 2 3 40 ∷ ed 3 4 30 ∷ ed 1 4 2 ∷ [] })
    fence_rules
    (or 0 4 ∷ [])
    []
    (4 ∷ [])
    2
    -- ask: the first by node numbers is not the first by edge numbers
    ∷ asked
    (record { nodes = Store 1 ∷ Store 2 ∷ Store 3 ∷ Load 4 ∷ []; edges = ed 0 2 1 ∷ ed 2 3 1 ∷ ed 0 1 1 ∷ ed 1 3 1 ∷ [] })
    fence_rules
    (or 0 3 ∷ [])
    0
    (0 ∷ 1 ∷ 3 ∷ [])
    -- D asked for (0,2), then what was written for (0,3), then stripped to 4
    ∷ twice (d_of 3) d_rules (or 0 2 ∷ []) (or 0 3 ∷ []) (1 ∷ []) (2 ∷ []) 2
    ∷ []
