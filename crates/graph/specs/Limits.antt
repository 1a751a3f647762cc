-- "Most: 512 nodes, 1,024 edges, 32 rules, 32 orders." In code these are the constants of `Graph`, and each contract holds the two together.
-- Assumes nothing.
use Rattle.std.specs.Prelude.{ℕ}

abbrev pub most_nodes : ℕ
most_nodes = 512

abbrev pub most_edges : ℕ
most_edges = 1024

abbrev pub most_rules : ℕ
most_rules = 32

abbrev pub most_orders : ℕ
most_orders = 32
