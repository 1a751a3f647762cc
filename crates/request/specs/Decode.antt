-- The request in a file's bytes: record i of a mark stands at a computed offset.
-- Assumes nothing.
use Rattle.std.specs.Prelude.{cond, List, [], ◌∷◌, map, ℕ, zero, suc, ◌+◌, eqb, length, get_or}
use Rattle.graph.specs.declared.Edge.{Edge}
use Rattle.graph.specs.declared.Label.{Label}
use Rattle.graph.specs.declared.Label.TheVariants.{Store, Load, Fence}
use Rattle.graph.specs.declared.Node.{Node}
use Rattle.graph.specs.declared.Order.{Order}
use Rattle.graph.specs.declared.Rule.{Rule}
use Rattle.graph.specs.declared.Side.{Side}
use Rattle.graph.specs.declared.Side.TheVariants.{Any, Is}
use Rattle.request.specs.declared.Counts.{Counts}
use Rattle.request.specs.declared.Mark.{Mark}
use Rattle.request.specs.declared.Mark.TheVariants.{Nd, Ed, Ru, Or}
use Rattle.request.specs.File.{Request, edge_bytes, order_bytes}
use Rattle.request.specs.Layout.{counted, start_of, width}
use Rattle.request.specs.Raw.{RawNode, RawRule, Raw, raw_node_bytes, raw_rule_bytes}
use Rattle.request.specs.Tables.{two_at}

-- what a record of a mark holds
abbrev pub Rec : Mark → Type 0
Rec Nd = RawNode
Rec Ed = Edge
Rec Ru = RawRule
Rec Or = Order

-- its bytes
abbrev pub bytes_of : (m : Mark) → Rec m → List ℕ
bytes_of Nd x = raw_node_bytes x
bytes_of Ed x = edge_bytes x
bytes_of Ru x = raw_rule_bytes x
bytes_of Or x = order_bytes x

-- the record at an offset
abbrev pub read_at : (m : Mark) → List ℕ → ℕ → Rec m
read_at Nd s at = record { kind = get_or s (at + 2) 0; address = get_or s (at + 3) 0 }
read_at Ed s at = record { from = two_at s (at + 2); to = two_at s (at + 4); weight = two_at s (at + 6) }
read_at Ru s at = record { left = get_or s (at + 2) 0; left_variable = get_or s (at + 3) 0; right = get_or s (at + 4) 0; right_variable = get_or s (at + 5) 0 }
read_at Or s at = record { first = two_at s (at + 2); second = two_at s (at + 4) }

-- n records of z bytes each, one after the other
unfoldable pub table : {X : Type 0} → (List ℕ → ℕ → X) → ℕ → List ℕ → ℕ → ℕ → List X
table dec z s at zero = []
table dec z s at (suc n) = dec s at ∷ table dec z s (at + z) n

-- the records of a mark, as many as counted
abbrev pub records_in : List ℕ → Counts → (m : Mark) → List (Rec m)
records_in s cs m = table (read_at m) (width m) s (start_of cs m) (counted cs m)

-- all records
abbrev pub raw_of : List ℕ → Counts → Raw
raw_of s cs = record { nodes = records_in s cs Nd; edges = records_in s cs Ed; rules = records_in s cs Ru; orders = records_in s cs Or }

-- those of a mark
abbrev pub list_of : Raw → (m : Mark) → List (Rec m)
list_of w Nd = w.nodes
list_of w Ed = w.edges
list_of w Ru = w.rules
list_of w Or = w.orders

-- what the numbers mean
abbrev pub label_of : ℕ → ℕ → Label
label_of kind address = cond (eqb kind 0) (Store address) (cond (eqb kind 1) (Load address) Fence)

-- "3 is the wildcard and stands only in rules"
abbrev pub side_of : ℕ → ℕ → Side
side_of kind variable = cond (eqb kind 3) Any (Is (label_of kind variable))

-- the label of a node record
abbrev pub label_of_node : RawNode → Label
label_of_node n = label_of n.kind n.address

-- the rule of a rule record
abbrev pub rule_of : RawRule → Rule
rule_of r = record { left = side_of r.left r.left_variable; right = side_of r.right r.right_variable }

-- the same at an offset, as values
abbrev pub node_in : List ℕ → ℕ → Node
node_in s at = record { label = label_of_node (read_at Nd s at) }

-- the rule at an offset
abbrev pub rule_in : List ℕ → ℕ → Rule
rule_in s at = rule_of (read_at Ru s at)

-- the request that the records say
abbrev pub understood : Raw → Request
understood w = record { graph = record { nodes = map label_of_node w.nodes; edges = w.edges }; rules = map rule_of w.rules; orders = w.orders }

-- the request that a file says, its records being so many
abbrev pub request_of : List ℕ → Counts → Request
request_of s cs = understood (raw_of s cs)

-- how many records of each mark there are
abbrev pub counts_of_raw : Raw → Counts
counts_of_raw w = record { nodes = length w.nodes; edges = length w.edges; rules = length w.rules; orders = length w.orders }

-- and back: the numbers that stand for it
abbrev pub raw_label : Label → RawNode
raw_label (Store a) = record { kind = 0; address = a }
raw_label (Load a) = record { kind = 1; address = a }
raw_label Fence = record { kind = 2; address = 0 }

-- a rule side, its variable in the place of an address
abbrev pub raw_side : Side → RawNode
raw_side (Is l) = raw_label l
raw_side Any = record { kind = 3; address = 0 }

-- both sides of a rule
abbrev pub raw_rule : Rule → RawRule
raw_rule r = record {
  left = (raw_side r.left).kind;
  left_variable = (raw_side r.left).address;
  right = (raw_side r.right).kind;
  right_variable = (raw_side r.right).address;
}

-- the records of a request
abbrev pub rawed : Request → Raw
rawed r = record { nodes = map raw_label r.graph.nodes; edges = r.graph.edges; rules = map raw_rule r.rules; orders = r.orders }
