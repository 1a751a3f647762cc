-- What run and strip write is a file that is accepted again.
-- Assumes nothing.
use mathlib.Core.List.Memᴰ
use mathlib.Core.List.{List, Memᴰ, [], ◌∷◌}
use mathlib.Core.Logic.{◌⊎◌, inl, inr}
use mathlib.Core.Path.{◌≡◌, subst⁻¹, subst}
use Prim.Native.Nat.{◌+◌, ◌<◌, ◌≤◌, ℕ}
use native.Mathlib.Omega.{arith}
use lib.ListN.{length, drop, take, take-append-drop}
use Rattle.graph.specs.declared.Label.{Label}
use Rattle.graph.specs.declared.Label.TheVariants.{Fence}
use Rattle.graph.specs.declared.Order.{Order}
use Rattle.outcome.specs.Outcome.{with_graph}
use Rattle.graph.specs.Cut.{Rising}
use Rattle.graph.specs.Graph.{Graph, Orderly, edge, no_order, order}
use Rattle.graph.specs.Held.{Within}
use Rattle.graph.specs.Limits.{most_edges, most_nodes}
use Rattle.graph.specs.Strip.{AllName, StripTo, Stripped, done, take_off}
use Rattle.graph.specs.Written.{fenced, written}
use Rattle.request.specs.File.{Request}
use Rattle.request.specs.Proper.{Addressed, Proper}
use Rattle.graph.proofs.Joined.{joined_edges, stripped_edges, stripped_sound, weight_from}
use Rattle.graph.proofs.Members.{at_mem}
use Rattle.graph.proofs.Runs.{written_nodes, written_sound}
use Rattle.graph.proofs.Strip.{stripped_fewer}
use Rattle.graph.proofs.Written.{fenced_count, later_within, place, rising_within}

-- no edge weighs more than its field holds
abbrev Light : Graph → Type 0
Light g = (i : ℕ) → i < length g.edges → (edge g i).weight < 65536

light_fenced : (g : Graph) (e : ℕ) → e < length g.edges → Light g → Light (fenced g e)
light_fenced g e fits light i h = elim (place g e fits i h) [
  | inl p ↦ let w = light i p.0 in omega (arith, p.2.2)
  | inr p ↦ let w = light e fits in elim p [ inl q ↦ omega (arith, q.1.2) | inr q ↦ omega (arith, q.1.2) ]
]

light_written : (g : Graph) (c : List ℕ) → Within (length g.edges) c → Light g → Light (written g c)
light_written g [] w light = light
light_written g (e ∷ c) w light = light_written (fenced g e) c (later_within g e c w) (light_fenced g e w.0 light)

pub written_edges : (g : Graph) (c : List ℕ) → Within (length g.edges) c → length (written g c).edges ≡ length g.edges + length c
written_edges g [] w = omega arith
written_edges g (e ∷ c) w = omega (arith, fenced_count g e w.0, written_edges (fenced g e) c (later_within g e c w))

addressed_written : (g : Graph) (c : List ℕ) → ((x : Label) → Memᴰ x g.nodes → Addressed x) → (x : Label) → Memᴰ x (written g c).nodes
    → Addressed x
addressed_written g [] all x m = all x m
addressed_written g (e ∷ c) all x m = addressed_written (fenced g e) c (λ y n. go y (Memᴰ.append_cases g.nodes n)) x m
  where
    go : (y : Label) → Memᴰ y g.nodes ⊎ Memᴰ y (Fence ∷ []) → Addressed y
    go y (inl n) = all y n
    go y (inr n) = subst⁻¹ Addressed (Memᴰ.eq_of_singleton n) tt

orderly_more : (m n : ℕ) (orders : List Order) → m ≤ n → Orderly m orders → Orderly n orders
orderly_more m n orders h o = record { ends = λ i k. let e = o.ends i k in (omega (arith, e.0), omega (arith, e.1), e.2); once = o.once }

pub proper_written : (q : Request) (c : List ℕ) → Proper q → Rising 0 (length q.graph.edges) c → length q.graph.nodes + length c ≤ most_nodes
    → length q.graph.edges + length c ≤ most_edges
    → Proper (with_graph q (written q.graph c))
proper_written q c p r few fewer = record {
  few_nodes = omega (arith, nodes);
  few_edges = omega (arith, written_edges q.graph c w);
  few_rules = p.few_rules;
  few_orders = p.few_orders;
  addressed = addressed_written q.graph c p.addressed;
  sound = written_sound q.graph c w p.sound;
  light = light_written q.graph c w p.light;
  formed = p.formed;
  orderly = orderly_more (length q.graph.nodes) (length (written q.graph c).nodes) q.orders (omega (arith, nodes)) p.orderly;
  fences = p.fences;
}
  where
    w : Within (length q.graph.edges) c
    w = rising_within 0 (length q.graph.edges) c r

    nodes : length (written q.graph c).nodes ≡ length q.graph.nodes + length c
    nodes = written_nodes q.graph c w

-- ---- what strip leaves

light_stripped : {g h : Graph} {t : ℕ} → Stripped g t h → Light g → Light h
light_stripped done light = light
light_stripped (take_off {g = g} v i m x p) light =
    light_stripped p (λ j h. let w = weight_from g v i m x j (omega (arith, joined_edges g v i m x)) in let b = light w.0 w.1 in omega (arith, w.2))

kept_front : {A : Type 0} (n : ℕ) (l : List A) (x : A) → Memᴰ x (take n l) → Memᴰ x l
kept_front n l x m = subst (Memᴰ x) (take-append-drop n l) (Memᴰ.append_left (drop n l) m)

addressed_stripped : {g h : Graph} {t : ℕ} → Stripped g t h → ((x : Label) → Memᴰ x g.nodes → Addressed x) → (x : Label) → Memᴰ x h.nodes
    → Addressed x
addressed_stripped done all x m = all x m
addressed_stripped (take_off {g = g} v i m l p) all x n = addressed_stripped p (λ y k. all y (kept_front v g.nodes y k)) x n

orderly_fewer : (m n : ℕ) (orders : List Order) → AllName n orders → Orderly m orders → Orderly n orders
orderly_fewer m n orders names o =
    record { ends = λ i k. let e = o.ends i k in let b = names (order orders i) (at_mem no_order orders i k) in (b.0, b.1, e.2); once = o.once }

pub proper_stripped : (q : Request) (count total : ℕ) (h : Graph) → Proper q → StripTo count q.orders q.graph total h → Proper (with_graph q h)
proper_stripped q count total h p way = record {
  few_nodes = omega (arith, stripped_fewer way.stripped, p.few_nodes);
  few_edges = omega (arith, stripped_edges way.stripped, p.few_edges);
  few_rules = p.few_rules;
  few_orders = p.few_orders;
  addressed = addressed_stripped way.stripped p.addressed;
  sound = stripped_sound way.stripped p.sound;
  light = light_stripped way.stripped p.light;
  formed = p.formed;
  orderly =
      orderly_fewer (length q.graph.nodes) (length h.nodes) q.orders (subst⁻¹ (λ (n : ℕ). AllName n q.orders) way.left way.names)
      p.orderly;
  fences = p.fences;
}
