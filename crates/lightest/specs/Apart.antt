-- What a cut must meet: the unordered routes of a list of pairs of nodes over one graph.
-- Assumes nothing.
use Rattle.std.specs.Prelude.{Bool, List, map, ◌≢◌, ◌≡◌, ℕ, ◌<◌, ◌≤◌, length, get_or}
use Rattle.graph.specs.declared.Order.{Order}
use Rattle.graph.specs.Limits.{most_nodes, most_orders}
use Rattle.route.specs.Way.{EdgeLists, Net}
use Rattle.walked.specs.Unordered.{Parts}

-- the first node of each order, and the second
abbrev pub firsts : List Order → List ℕ
firsts orders = map (λ (o : Order). o.first) orders

abbrev pub seconds : List Order → List ℕ
seconds orders = map (λ (o : Order). o.second) orders

-- without the edges of t, every route from the first node of a pair to its second orders them
abbrev pub Apart : List ℕ → List ℕ → List ℕ → List ℕ → List ℕ → List Bool → Type 0
Apart from to fits us vs t = (i : ℕ) → i < length us → Parts from to fits (get_or us i 0) (get_or vs i 0) t

-- a graph with its edges linked both ways and weights of at least 1, and pairs of different nodes
pub record Posed (from to ins on ws us vs : List ℕ) : Type 0 where
  pub net : Net from to
  pub into : EdgeLists to ins 0
  pub onward : EdgeLists from on 0
  pub weights : length ws ≡ length from
  pub some : (e : ℕ) → e < length ws → 1 ≤ get_or ws e 0
  pub orders : length us ≤ most_orders
  pub pairs : length vs ≡ length us
  pub ends : (i : ℕ) → i < length us → (get_or us i 0 < most_nodes) × (get_or vs i 0 < most_nodes) × (get_or us i 0 ≢ get_or vs i 0)
