-- What it is to write a list of bytes into a buffer, and how many a graph by value takes.
-- Assumes nothing.
use Rattle.std.specs.Prelude.{List, ◌++◌, ◌≡◌, ◌*◌, ◌+◌, ◌≤◌, ℕ, drop, length, take}
use Rattle.graph.specs.declared.Graph as Value

-- the buffer before with the bytes xs written from at up to end is the buffer after: "Bytes and entries past the length written keep their values."
pub record Written (before after : List ℕ) (at end : ℕ) (xs : List ℕ) : Type 0 where
  pub next : end ≡ at + length xs
  pub room : end ≤ length before
  pub bytes : after ≡ take at before ++ xs ++ drop end before

-- how many bytes its records are, EN included
abbrev pub size_of : Value.Graph → ℕ
size_of g = length g.nodes.items * 4 + length g.edges.items * 8 + length g.rules.items * 6 + length g.orders.items * 6 + 2
