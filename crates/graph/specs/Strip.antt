-- Fences taken off, from the highest node down.
-- Assumes nothing.
use Rattle.std.specs.Prelude.{◌≡◌, ℕ, suc, ◌+◌, ◌<◌, ◌≤◌, length, set, take}
use mathlib.Core.List.{List, Memᴰ}
use Rattle.graph.specs.declared.Label.TheVariants.{Fence}
use Rattle.graph.specs.declared.Order.{Order}
use Rattle.graph.specs.Graph.{Graph, label, edge}

-- "the highest node", v, can be taken off edge i; m is "the last edge"
pub record Loose (g : Graph) (v i m : ℕ) : Type 0 where
  pub highest : length g.nodes ≡ suc v
  pub last : length g.edges ≡ suc m
  -- "the highest node is a full fence"
  pub is_fence : label g v ≡ Fence
  -- "exactly one edge ends at it, exactly one starts at it, and these are two edges; the one that starts there is the last edge"
  pub two : i < m
  pub ends : (edge g i).to ≡ v
  pub ends_only : (j : ℕ) → j < length g.edges → (edge g j).to ≡ v → j ≡ i
  pub starts : (edge g m).from ≡ v
  pub starts_only : (j : ℕ) → j < length g.edges → (edge g j).from ≡ v → j ≡ m
  -- "their weights agree"
  pub agree : (edge g i).weight ≡ (edge g m).weight
  -- "the pair made by joining them isn't an edge already"
  pub new : (j : ℕ) → j < length g.edges → (edge g j).from ≡ (edge g i).from → (edge g j).to ≡ (edge g m).to → ⊥

-- "The edge that ended at the node becomes that pair, at its own place, and the last edge is removed."
abbrev pub joined : Graph → ℕ → ℕ → ℕ → Graph
joined g v i m = record {
  nodes = take v g.nodes;
  edges = set (take m g.edges) i (record { from = (edge g i).from; to = (edge g m).to; weight = (edge g i).weight });
}

-- "It repeats this", with "the sum of the weights of the pairs rejoined"
pub data Stripped : Graph → ℕ → Graph → Type 0 where
  done : {g : Graph} → Stripped g 0 g
  take_off : {g h : Graph} {total : ℕ} (v i m : ℕ) → Loose g v i m → Stripped (joined g v i m) total h → Stripped g ((edge g i).weight + total) h

-- "no order names a node numbered c or more": this one doesn't
abbrev pub Names : ℕ → Order → Type 0
Names n o = (o.first < n) × (o.second < n)

-- "no order names a node numbered c or more": none of these does
abbrev pub AllName : ℕ → List Order → Type 0
AllName n orders = (o : Order) → Memᴰ o orders → Names n o

-- "until c nodes are left .. At the start c is at most the node count, and no order names a node numbered c or more."
pub record StripTo (c : ℕ) (orders : List Order) (g : Graph) (total : ℕ) (h : Graph) : Type 0 where
  pub enough : c ≤ length g.nodes
  pub names : AllName c orders
  pub stripped : Stripped g total h
  pub left : length h.nodes ≡ c
