-- The records of a file as their numbers, not yet judged, and the bytes that they stand for.
-- Assumes nothing.
use mathlib.Core.List.{List, [], ◌∷◌, ◌++◌, flat_map}
use Rattle.std.specs.Prelude.{ℕ, ◌+◌, ◌*◌, length}
use Rattle.graph.specs.declared.Edge.{Edge}
use Rattle.graph.specs.declared.Order.{Order}
use Rattle.request.specs.File.{edge_bytes, order_bytes}

-- ND: "kind (1), address (1)"
pub record RawNode : Type 0 where
  pub kind : ℕ
  pub address : ℕ

-- RU: "left kind, left variable, right kind, right variable (1 each)"
pub record RawRule : Type 0 where
  pub left : ℕ
  pub left_variable : ℕ
  pub right : ℕ
  pub right_variable : ℕ

-- edges and orders are numbers already
pub record Raw : Type 0 where
  pub nodes : List RawNode
  pub edges : List Edge
  pub rules : List RawRule
  pub orders : List Order

-- ND, with its mark
abbrev pub raw_node_bytes : RawNode → List ℕ
raw_node_bytes n = 78 ∷ 68 ∷ n.kind ∷ n.address ∷ []

-- RU, with its mark
abbrev pub raw_rule_bytes : RawRule → List ℕ
raw_rule_bytes r = 82 ∷ 85 ∷ r.left ∷ r.left_variable ∷ r.right ∷ r.right_variable ∷ []

-- "Records stand in the order ND, ED, RU, OR": these, and then the rest
abbrev pub laid : Raw → List ℕ → List ℕ
laid w rest =
    flat_map raw_node_bytes w.nodes
    ++ (flat_map edge_bytes w.edges ++ (flat_map raw_rule_bytes w.rules ++ (flat_map order_bytes w.orders ++ rest)))

-- "Bytes in all": 4 for ND, 8 for ED, 6 for RU, 6 for OR
abbrev pub size : Raw → ℕ
size w = length w.nodes * 4 + length w.edges * 8 + length w.rules * 6 + length w.orders * 6

-- "one EN, which ends the file"
abbrev pub file : Raw → List ℕ
file w = laid w (69 ∷ 78 ∷ [])
