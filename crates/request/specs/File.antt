-- A request and its bytes: document 01's request file.
-- Assumes nothing.
use mathlib.Core.List.{List, [], ◌∷◌, ◌++◌, flat_map}
use Rattle.std.specs.Prelude.{ℕ, ◌/◌, ◌%◌, ◌<◌, get_or}
use Rattle.graph.specs.declared.Edge.{Edge}
use Rattle.graph.specs.declared.Label.{Label}
use Rattle.graph.specs.declared.Label.TheVariants.{Store, Load, Fence}
use Rattle.graph.specs.declared.Order.{Order}
use Rattle.graph.specs.declared.Rule.{Rule}
use Rattle.graph.specs.declared.Side.{Side}
use Rattle.graph.specs.declared.Side.TheVariants.{Any, Is}
use Rattle.graph.specs.Graph.{Graph}

-- "a control-flow graph of stores, loads and fences, a list of architecture rules, and a list of required orders"
pub record Request : Type 0 where
  pub graph : Graph
  pub rules : List Rule
  pub orders : List Order

-- the request of these three
abbrev pub request : Graph → List Rule → List Order → Request
request g rules orders = record { graph = g; rules = rules; orders = orders }

-- "Numbers are little-endian.": one of two bytes
abbrev pub two : ℕ → List ℕ
two n = n % 256 ∷ n / 256 ∷ []

-- ND, "kind (1), address (1)": "Kind 0 is a store, 1 a load, 2 the full fence .. a fence's address byte is 0."
abbrev pub node_bytes : Label → List ℕ
node_bytes (Store a) = 78 ∷ 68 ∷ 0 ∷ a ∷ []
node_bytes (Load a) = 78 ∷ 68 ∷ 1 ∷ a ∷ []
node_bytes Fence = 78 ∷ 68 ∷ 2 ∷ 0 ∷ []

-- ED, "from (2), to (2), weight (2)"
abbrev pub edge_bytes : Edge → List ℕ
edge_bytes e = 69 ∷ 68 ∷ (two e.from ++ (two e.to ++ two e.weight))

-- kind and variable; "3 is the wildcard and stands only in rules .. A rule side of kind 2 or 3 has variable 0."
abbrev pub side_bytes : Side → List ℕ
side_bytes (Is (Store v)) = 0 ∷ v ∷ []
side_bytes (Is (Load v)) = 1 ∷ v ∷ []
side_bytes (Is Fence) = 2 ∷ 0 ∷ []
side_bytes Any = 3 ∷ 0 ∷ []

-- RU, "left kind, left variable, right kind, right variable (1 each)"
abbrev pub rule_bytes : Rule → List ℕ
rule_bytes r = 82 ∷ 85 ∷ (side_bytes r.left ++ side_bytes r.right)

-- OR, "first (2), second (2)"
abbrev pub order_bytes : Order → List ℕ
order_bytes o = 79 ∷ 82 ∷ (two o.first ++ two o.second)

-- "Records stand in the order ND, ED, RU, OR, EN, as many of each as wished but one EN, which ends the file."
unfoldable pub bytes : Request → List ℕ
unfolding flat_map
bytes r =
    flat_map node_bytes r.graph.nodes
    ++ (flat_map edge_bytes r.graph.edges ++ (flat_map rule_bytes r.rules ++ (flat_map order_bytes r.orders ++ (69 ∷ 78 ∷ []))))

-- entries that are bytes
abbrev pub Bytes : List ℕ → Type 0
Bytes s = (i : ℕ) → get_or s i 0 < 256
