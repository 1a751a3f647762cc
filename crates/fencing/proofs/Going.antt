-- Fences taken off one by one: what is left at each turn, and that a loop that stops early has to.
-- Assumes nothing.
use mathlib.Core.Path.{◌∙◌, ◌≡◌, ap, ap₂, subst, subst₃, sym}
use Prim.Native.Nat.{◌*◌, ◌+◌, ◌-◌, ◌<◌, ◌≤◌, ℕ}
use native.Mathlib.Omega.{arith}
use lib.ListN.{length, length-set, take}
use lib.Seq.{length-take-le}
use Rattle.std.specs.Prelude.{None, Some}
use Rattle.fencing.specs.Kept.{Kept}
use Rattle.fencing.specs.Left.{Off, Top}
use Rattle.graph.specs.Graph.{Graph, edge}
use Rattle.graph.specs.Strip.{Loose, Stripped, done, joined, take_off}
use Rattle.graph.specs.Value.{graph_of}
use Rattle.graph.proofs.Strip.{joined_count, stripped_fewer, stripped_snoc}
use Rattle.graph.proofs.Value.{node_total}
use Rattle.fencing.proofs.Keeping.{kept_same, kept_then}
use Rattle.graph.specs.declared.Graph as Value

-- what is stripped further has passed through h
through : {g h k : Graph} {t u : ℕ} → Stripped g t h → Stripped g u k → length k.nodes ≤ length h.nodes → (w : ℕ) × Stripped h w k
through {u} done q e = (u, q)
through (take_off v i m l p) done e = absurd (let z : ⊥ = omega (arith, stripped_fewer p, joined_count l, l.highest) in z)
through {h} {k} (take_off {g = g} v i m l p) (take_off {total = t₂} v' i' m' l' p') e =
    let ve : v' ≡ v = omega (arith, l.highest, l'.highest) in
    let me : m' ≡ m = omega (arith, l.last, l'.last) in
    let ie : i' ≡ i = l.ends_only i' (omega (arith, l'.last, l'.two)) (l'.ends ∙ ve) in
    through p (subst₃ (λ (a b c : ℕ). Stripped (joined g a b c) t₂ k) ve ie me p') e

-- where nothing is loose and too many nodes are left, there is no way
pub no_way : {g h : Graph} {t : ℕ} (c : ℕ) → Stripped g t h → ((v i m : ℕ) → ¬ Loose h v i m) → c < length h.nodes → (u : ℕ) (k : Graph) → Stripped g u k
    → length k.nodes ≡ c → ⊥
no_way {g} {h} c p f l u k q e = go (through p q (omega arith))
  where
    first : {h k : Graph} {w : ℕ} → Stripped h w k → ((v i m : ℕ) → ¬ Loose h v i m) → length k.nodes < length h.nodes → ⊥
    first done f l = let z : ⊥ = omega arith in z
    first (take_off v i m x p) f l = f v i m x

    go : (w : ℕ) × Stripped h w k → ⊥
    go (w, r) = first r f (omega arith)

-- ---- all of them

-- h is left of g, and pairs of weight w were rejoined
pub record Going (g h : Value.Graph) (w : ℕ) : Type 0 where
  pub kept : Kept g h
  pub paired : length h.edges.items + length g.nodes.items ≡ length g.edges.items + length h.nodes.items
  pub light : w + length h.nodes.items * 65535 ≤ length g.nodes.items * 65535
  pub stripped : Stripped (graph_of g) w (graph_of h)

-- k is h after the fence on edge i
abbrev pub Joined : Value.Graph → ℕ → Value.Graph → Type 0
Joined h i k = (graph_of k ≡ joined (graph_of h) (length h.nodes.items - 1) i (length h.edges.items - 1)) × Kept h k

pub going_start : (g : Value.Graph) → Going g g 0
going_start g = record { kept = kept_same; paired = omega arith; light = omega arith; stripped = done }

joined_edges : {g : Graph} {v i m : ℕ} → Loose g v i m → length (joined g v i m).edges ≡ m
joined_edges {g} {v} {i} {m} x = length-set (take m g.edges) i _ ∙ length-take-le m g.edges (omega (arith, x.last))

-- an edge whose start could be rejoined is not the last
pub low : (h : Value.Graph) {i : ℕ} → Top (graph_of h) (Some i) → i < length h.edges.items - 1
low h (v, m, x) = omega (arith, x.two, x.last)

module _ {g h : Value.Graph} {w : ℕ} (st : Going g h w) where
  pub going_more : {k : Value.Graph} {i w' : ℕ} → Joined h i k → w' ≡ w + (edge (graph_of h) i).weight → (edge (graph_of h) i).weight < 65536
      → Top (graph_of h) (Some i) → Going g k w' × (length k.nodes.items + 1 ≡ length h.nodes.items)
  going_more {k} {i} {w'} j hw small (v, m, x) =
      let e : joined (graph_of h) v i m ≡ graph_of k = ap₂ (λ (a b : ℕ). joined (graph_of h) a i b) (omega (arith, x.highest, node_total h))
      (omega (arith, x.last)) ∙ sym j.0 in
      let nodes : length k.nodes.items + 1 ≡ length h.nodes.items =
      omega (arith, x.highest, node_total h, node_total k, joined_count x, ap (λ (y : Graph). length y.nodes) e) in
      let edges : length k.edges.items + 1 ≡ length h.edges.items =
      omega (arith, x.last, joined_edges x, ap (λ (y : Graph). length y.edges) e) in (
        record {
          kept = kept_then st.kept j.1;
          paired = omega (arith, st.paired, nodes, edges);
          light = omega (arith, st.light, nodes);
          stripped = subst (Stripped (graph_of g) w') e (stripped_snoc st.stripped v i m x w' hw);
        },
        nodes,
      )

  pub going_stuck : {c : ℕ} → c ≤ length h.nodes.items → Top (graph_of h) None → Off (graph_of g) c (length h.nodes.items) w (graph_of h)
  going_stuck a f = record { stripped = st.stripped; left = node_total h; enough = a; early = λ l. f }

  pub going_end : {c : ℕ} → length h.nodes.items ≡ c → Off (graph_of g) c (length h.nodes.items) w (graph_of h)
  going_end e =
      record { stripped = st.stripped; left = node_total h; enough = omega arith; early = λ l v i m x. absurd (let z : ⊥ = omega arith in z) }
