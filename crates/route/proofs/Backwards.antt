-- The lists of edges, made from the last edge down.
-- Assumes nothing.
use mathlib.Core.List.{List, [], ◌∷◌, ◌++◌}
use mathlib.Core.Path.{◌≡◌, sym, ap, ◌∙◌}
use Prim.Native.Nat.{ℕ, ◌+◌, ◌<◌, ◌≤◌}
use native.Mathlib.Omega.{arith}
use lib.ListN.{length, get_or, set, length-set, length-append}
use lib.Seq.{get_or-append_seam}
use Rattle.std.proofs.lemmas.List.{append-nil, append_assoc}
use Rattle.graph.specs.declared.Edge.{Edge}
use Rattle.graph.specs.Graph.{no_edge}
use Rattle.graph.specs.Limits.{most_nodes, most_edges}
use Rattle.route.specs.Way.{EdgeLists}
use Rattle.route.proofs.Linking.{linked_none, linked_more}

-- Told e v: edge e is said to be at v
module _ (edges : List Edge) (Told : ℕ → ℕ → Type 0) where
  -- `rest` are still to come, and the edges after them are in the lists
  pub record Back (rest : List Edge) (entries : List ℕ) : Type 0 where
    pub linked : List Edge
    pub all : rest ++ linked ≡ edges
    pub room : length entries ≡ most_nodes + most_edges
    pub lists : (nodes : List ℕ) → length nodes ≡ length edges → ((e v : ℕ) → e < length edges → Told e v → v ≡ get_or nodes e 0) → EdgeLists nodes entries (length rest)

  pub back_start : (entries : List ℕ) → length entries ≡ most_nodes + most_edges → ((v : ℕ) → v < most_nodes → get_or entries v 0 ≡ length edges)
      → Back edges entries
  back_start entries room f = record {
    linked = [];
    all = append-nil edges;
    room = room;
    lists = λ nodes long told. rw (← long) (linked_none nodes entries (λ v h. f v h ∙ sym long));
  }

  module _ (entries : List ℕ) (here rest : List Edge) (x : Edge) (at : here ≡ rest ++ x ∷ []) (y : Back here entries) where
    back_all : rest ++ x ∷ y.linked ≡ edges
    back_all = sym (append_assoc rest (x ∷ []) y.linked) ∙ ap (λ (l : List Edge). l ++ y.linked) (sym at) ∙ y.all

    -- the next edge, from the back
    pub back_edge : (length rest < length edges) × (get_or edges (length rest) no_edge ≡ x)
    back_edge = (
      omega (arith, ap length back_all, length-append rest (x ∷ y.linked)),
      ap (λ (l : List Edge). get_or l (length rest) no_edge) (sym back_all) ∙ get_or-append_seam rest x y.linked no_edge,
    )

    pub back_more : (v : ℕ) → length edges ≤ most_edges → v < most_nodes → Told (length rest) v
        → Back rest (set (set entries (most_nodes + length rest) (get_or entries v 0)) v (length rest))
    back_more v few v64 is = record {
      linked = x ∷ y.linked;
      all = back_all;
      room = length-set (set entries (most_nodes + length rest) (get_or entries v 0)) v (length rest)
          ∙ length-set entries (most_nodes + length rest) (get_or entries v 0) ∙ y.room;
      lists = λ nodes long told. linked_more nodes entries (length rest) v y.room (omega (arith, few, long)) (omega (arith, back_edge.0, long)) v64
          (told (length rest) v back_edge.0 is) (rw (← (length-append rest (x ∷ [])), ← at) (y.lists nodes long told));
    }
