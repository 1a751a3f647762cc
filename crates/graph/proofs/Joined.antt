-- What is left when fences are taken off is a sound graph again.
-- Assumes nothing.
use mathlib.Core.Logic.{◌≢◌}
use mathlib.Core.Path.{◌∙◌, ◌≡◌, ap, sym}
use Prim.Native.Nat.{◌<◌, ◌≤◌, suc, ℕ}
use native.Mathlib.Decide.{ℕ_discrete}
use native.Mathlib.Omega.{arith}
use lib.ListN.{length, length-set, take}
use lib.Seq.{get_or-set_other, get_or-set_same, get_or-take, length-take-le}
use Rattle.graph.specs.declared.Edge.{Edge}
use Rattle.graph.specs.Graph.{Graph, Sound, edge, no_edge}
use Rattle.graph.specs.Strip.{Loose, Stripped, done, joined, take_off}
use Rattle.graph.proofs.Strip.{joined_count}
use Rattle.graph.proofs.Written.{agree}

module _ (g : Graph) (v i m : ℕ) (x : Loose g v i m) where
  -- the two edges joined
  abbrev pair : Edge
  pair = record { from = (edge g i).from; to = (edge g m).to; weight = (edge g i).weight }

  cut_length : length (take m g.edges) ≡ m
  cut_length = length-take-le m g.edges (omega (arith, x.last))

  pub joined_edges : length (joined g v i m).edges ≡ m
  joined_edges = length-set (take m g.edges) i pair ∙ cut_length

  edge-joined : (j : ℕ) → j ≡ i → edge (joined g v i m) j ≡ pair
  edge-joined j e =
      ap (edge (joined g v i m)) e
      ∙ get_or-set_same (take m g.edges) i pair no_edge
      (omega (arith, cut_length, x.two))

  edge_kept : (j : ℕ) → j < m → j ≢ i → edge (joined g v i m) j ≡ edge g j
  edge_kept j h d =
      get_or-set_other (take m g.edges) i j pair no_edge d
      ∙ get_or-take m g.edges j no_edge h

  -- an edge that is left weighs what an edge weighed
  pub weight_from : (j : ℕ) → j < m → (k : ℕ) × (k < length g.edges) × ((edge (joined g v i m) j).weight ≡ (edge g k).weight)
  weight_from j h = elim (ℕ_discrete j i) [
    | yes e ↦ (i, omega (arith, x.last, x.two), ap (λ (y : Edge). y.weight) (edge-joined j e))
    | no d ↦ (j, omega (arith, x.last), ap (λ (y : Edge). y.weight) (edge_kept j h d))
  ]

  pub joined_sound : Sound g → Sound (joined g v i m)
  joined_sound s =
      record {
        ends = λ j h. ends j (omega (arith, joined_edges)) (ℕ_discrete j i);
        pairs = λ j k h l p q. pairs j k (omega (arith, joined_edges)) (omega (arith, joined_edges)) p q (ℕ_discrete j i) (ℕ_discrete k i);
      }
    where
      count : length (joined g v i m).nodes ≡ v
      count = joined_count x

      no_start : (j : ℕ) → j < m → (edge g j).from ≢ v
      no_start j h e = let z : ⊥ = omega (arith, x.starts_only j (omega (arith, x.last)) e) in z

      no_end : (j : ℕ) → j < suc m → j ≢ i → (edge g j).to ≢ v
      no_end j h d e = d (x.ends_only j (omega (arith, x.last)) e)

      ends : (j : ℕ) → j < m → Dec (j ≡ i)
          → ((edge (joined g v i m) j).from < length (joined g v i m).nodes) × ((edge (joined g v i m) j).to < length (joined g v i m).nodes)
          × (1 ≤ (edge (joined g v i m) j).weight)
      ends j h (yes e) =
          let q = agree (edge-joined j e) in let a = s.ends i (omega (arith, x.last, x.two)) in let b = s.ends m (omega (arith, x.last)) in
          omega (arith, count, x.highest, no_start i x.two, no_end m (omega arith) (λ w. omega (arith, x.two)))
      ends j h (no d) =
          let q = agree (edge_kept j h d) in let a = s.ends j (omega (arith, x.last)) in
          omega (arith, count, x.highest, no_start j h, no_end j (omega arith) d)

      fresh : (j k : ℕ) → j < m → j ≢ i → k ≡ i → (edge (joined g v i m) j).from ≡ (edge (joined g v i m) k).from
          → (edge (joined g v i m) j).to ≡ (edge (joined g v i m) k).to → ⊥
      fresh j k h d e p q =
          let a = agree (edge_kept j h d) in let b = agree (edge-joined k e) in x.new j (omega (arith, x.last)) (omega arith) (omega arith)

      pairs : (j k : ℕ) → j < m → k < m → (edge (joined g v i m) j).from ≡ (edge (joined g v i m) k).from
          → (edge (joined g v i m) j).to ≡ (edge (joined g v i m) k).to → Dec (j ≡ i) → Dec (k ≡ i) → j ≡ k
      pairs j k h l p q (yes d) (yes e) = d ∙ sym e
      pairs j k h l p q (no d) (yes e) = absurd (fresh j k h d e p q)
      pairs j k h l p q (yes d) (no e) = absurd (fresh k j l e d (sym p) (sym q))
      pairs j k h l p q (no d) (no e) =
          let a = agree (edge_kept j h d) in let b = agree (edge_kept k l e) in
          s.pairs j k (omega (arith, x.last)) (omega (arith, x.last)) (omega arith) (omega arith)

-- ---- all of them

pub stripped_sound : {g h : Graph} {t : ℕ} → Stripped g t h → Sound g → Sound h
stripped_sound done s = s
stripped_sound (take_off {g = g} v i m x p) s = stripped_sound p (joined_sound g v i m x s)

pub stripped_edges : {g h : Graph} {t : ℕ} → Stripped g t h → length h.edges ≤ length g.edges
stripped_edges done = omega arith
stripped_edges (take_off {g = g} v i m x p) = omega (arith, stripped_edges p, joined_edges g v i m x, x.last)
