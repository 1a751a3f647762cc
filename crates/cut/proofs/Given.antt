-- What the search is given of a graph by value, and what its answer says of that graph.
-- Assumes nothing.
use mathlib.Core.Bool.{Bool, true, false}
use mathlib.Core.List.{List}
use mathlib.Core.Logic.{◌⊎◌, inl, inr, ◌≢◌}
use mathlib.Core.Path.{◌≡◌, sym, ap, ◌∙◌, subst⁻¹}
use Prim.Native.Nat.{ℕ, ◌<◌, ◌≤◌}
use native.Mathlib.Omega.{arith}
use lib.ListN.{length, get_or}
use Rattle.std.specs.List.{All, Contains}
use Rattle.std.specs.List.Sorted.{IsPermutation}
use Rattle.std.proofs.lemmas.List.{length-map, get_or-map}
use Rattle.std.proofs.lemmas.List.Sorted.{All-permutation, Contains-permutation}
use Rattle.lightest.specs.declared.Cut.{Cut}
use Rattle.graph.specs.declared.Edge.{Edge}
use Rattle.graph.specs.declared.Node.{Node}
use Rattle.graph.specs.declared.Order.{Order}
use Rattle.lightest.specs.Apart.{Apart, Posed, firsts, seconds}
use Rattle.cut.specs.Chosen.{Chosen}
use Rattle.cut.specs.Given.{Differ, open_of}
use Rattle.lightest.specs.Made.{Made, cut_of, edges_of}
use Rattle.lightest.specs.Sets.{Least}
use Rattle.graph.specs.Graph.{Sound, Orderly, order, no_order, no_edge}
use Rattle.graph.specs.Held.{Held, Open}
use Rattle.graph.specs.Limits.{most_nodes, most_edges, most_orders}
use Rattle.graph.specs.Value.{graph_of, rules_of, orders_of, Told}
use Rattle.route.specs.Way.{EdgeLists, Net, starts, ends, weights}
use Rattle.words.specs.Words.{Ruling}
use Rattle.cut.proofs.Gathered.{each_open, open_there}
use Rattle.cut.proofs.Separated.{AskedOpen, Asks, heft, chosen_of, weight_of}
use Rattle.graph.proofs.Splits.{bool}
use Rattle.graph.proofs.Counted.{all_ends}
use Rattle.graph.proofs.Value.{node_total}
use Rattle.graph.proofs.Members.{at_mem, mem_at}
use Rattle.graph.specs.declared.Graph as Value

-- an order of two different nodes
abbrev Distinct : Order → Type 0
Distinct o = (o.first < most_nodes) × (o.second < most_nodes) × (o.first ≢ o.second)

pub differ_all : (orders : List Order) → All Distinct orders → Differ orders
differ_all orders all i h = all i no_order h

-- what is known of a graph that is asked for a cut
pub record Known (g : Value.Graph) : Type 0 where
  pub nodes : length (graph_of g).nodes ≤ most_nodes
  pub edges : length g.edges.items ≤ most_edges
  pub sound : Sound (graph_of g)
  pub orderly : Orderly (length (graph_of g).nodes) (orders_of g)

-- from its nodes and its edges as they are lent
pub known : (g : Value.Graph) {ns : List Node} {es : List Edge} → (ns ≡ g.nodes.items) × (length ns ≤ most_nodes) → es ≡ g.edges.items
    → length es ≤ most_edges → Sound (graph_of g) × Orderly (length (graph_of g).nodes) (orders_of g) → Known g
known g n e few (sound, orderly) = record {
  nodes = omega (arith, node_total g, ap length n.0, n.1);
  edges = omega (arith, ap length e);
  sound = sound;
  orderly = orderly;
}

module _ {g : Value.Graph} (k : Known g) where
  abbrev edges : List Edge
  edges = g.edges.items

  pub given_starts : (e : ℕ) → e < length edges → get_or (starts edges) e 0 < most_nodes
  given_starts e h = omega (arith, get_or-map (λ (x : Edge). x.from) edges e no_edge 0 h, (all_ends g k.nodes k.sound e h).0)

  pub given_ends : (e : ℕ) → e < length edges → get_or (ends edges) e 0 < most_nodes
  given_ends e h = omega (arith, get_or-map (λ (x : Edge). x.to) edges e no_edge 0 h, (all_ends g k.nodes k.sound e h).1)

  pub given_net : Net (starts edges) (ends edges)
  given_net = record {
    few = omega (arith, k.edges, length-map edges (λ (x : Edge). x.from));
    both = length-map edges (λ (x : Edge). x.to) ∙ sym (length-map edges (λ (x : Edge). x.from));
    tail = λ e h. given_starts e (omega (arith, length-map edges (λ (x : Edge). x.from)));
    head = λ e h. given_ends e (omega (arith, length-map edges (λ (x : Edge). x.from)));
  }

  module _ (flags : List Bool) where
    given_distinct : All Distinct (open_of (orders_of g) flags)
    given_distinct = each_open Distinct (orders_of g) flags
        (λ i h f. let s = k.orderly.ends i h in (omega (arith, s.0, k.nodes), omega (arith, s.1, k.nodes), s.2))

    pub given_differ : Differ (open_of (orders_of g) flags)
    given_differ = differ_all (open_of (orders_of g) flags) given_distinct

    module _ (pairs : List Order) (moved : IsPermutation (open_of (orders_of g) flags) pairs) where
      pub given_posed : length pairs ≤ most_orders → (ins outs : List ℕ) → EdgeLists (ends edges) ins 0
          → EdgeLists (starts edges) outs 0 → Posed (starts edges) (ends edges) ins outs (weights edges) (firsts pairs) (seconds pairs)
      given_posed short ins outs into onward = record {
        net = given_net;
        into = into;
        onward = onward;
        weights = length-map edges (λ (x : Edge). x.weight) ∙ sym (length-map edges (λ (x : Edge). x.from));
        some = λ e h. let l : e < length edges = omega (arith, length-map edges (λ (x : Edge). x.weight)) in
            omega (arith, heft (graph_of g) e, (k.sound.ends e l).2);
        orders = omega (arith, length-map pairs (λ (x : Order). x.first));
        pairs = length-map pairs (λ (x : Order). x.second) ∙ sym (length-map pairs (λ (x : Order). x.first));
        ends = λ i h. let l : i < length pairs = omega (arith, length-map pairs (λ (x : Order). x.first)) in
            let d = All-permutation Distinct (open_of (orders_of g) flags) pairs moved given_distinct i no_order l in
            rw (get_or-map (λ (x : Order). x.first) pairs i no_order 0 l, get_or-map (λ (x : Order). x.second) pairs i no_order 0 l) d;
      }

      given_asks : Told g flags → Asks (graph_of g) (rules_of g) (orders_of g) pairs
      given_asks told = record {
        each = All-permutation (AskedOpen (graph_of g) (rules_of g) (orders_of g)) (open_of (orders_of g) flags) pairs moved
            (each_open (AskedOpen (graph_of g) (rules_of g) (orders_of g)) (orders_of g) flags (λ i h f. (at_mem no_order (orders_of g) i h, told.is_open i h f)));
        all = λ o m op. let at = mem_at no_order (orders_of g) m in
            Contains-permutation (open_of (orders_of g) flags) pairs o moved (found o op at.0 at.1 at.2 (bool (get_or flags at.0 false)));
      }
        where
          found : (o : Order) → Open (graph_of g) (rules_of g) o → (i : ℕ) → i < length (orders_of g) → o ≡ order (orders_of g) i
              → (get_or flags i false ≡ true) ⊎ (get_or flags i false ≡ false) → Contains (open_of (orders_of g) flags) o
          found o op i h q (inl f) = subst⁻¹ (Contains (open_of (orders_of g) flags)) q (open_there (orders_of g) flags i h f)
          found o op i h q (inr f) = absurd (op (subst⁻¹ (Held (graph_of g) (rules_of g)) q (told.is_held i h f)))

      pub given_chosen : (fits : List ℕ) → Ruling (graph_of g) (rules_of g) fits → Told g flags → (r : Cut)
          → Made (weights edges) (cut_of r)
          → Least (weights edges) (Apart (starts edges) (ends edges) fits (firsts pairs) (seconds pairs)) (edges_of r.chosen) → Chosen g r
      given_chosen fits ruling told r made least = record {
        best = chosen_of (graph_of g) (rules_of g) (orders_of g) pairs fits k.sound k.edges (given_asks told) ruling (edges_of r.chosen) made.edges least;
        sum = sym made.sum ∙ weight_of (graph_of g) (edges_of r.chosen);
        small = made.small;
        long = made.edges.long;
        below = λ e h. omega (arith, (made.edges.known e h).0, length-map edges (λ (x : Edge). x.weight));
      }
