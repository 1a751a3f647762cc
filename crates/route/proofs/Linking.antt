-- The lists of edges that end at the same node: made one edge more at a time, from the last down; the next edge of a list.
-- Assumes nothing.
use mathlib.Core.List.{List}
use mathlib.Core.Path.{◌≡◌, sym, ◌∙◌}
use Prim.Native.Nat.{ℕ, ◌+◌, ◌<◌, ◌≤◌}
use native.Mathlib.Decide.{ℕ_discrete}
use native.Mathlib.Omega.{arith}
use lib.ListN.{length, get_or, set, length-set}
use lib.Seq.{get_or-set_same, get_or-set_other}
use Rattle.graph.specs.Limits.{most_nodes, most_edges}
use Rattle.graph.specs.Scan.{FirstFrom}
use Rattle.graph.proofs.Scan.{passed_none, first_here, first_none, first_lower}
use Rattle.route.specs.Way.{EdgeLists}

module _ (to : List ℕ) where
  -- edge e ends at v
  abbrev pub Into : ℕ → ℕ → Type 0
  Into v e = get_or to e 0 ≡ v

  pub linked_none : (entries : List ℕ) → ((v : ℕ) → v < most_nodes → get_or entries v 0 ≡ length to) → EdgeLists to entries (length to)
  linked_none entries f = record {
    first =
        λ v h. let last = passed_none (Into v) (length to) in
        rw (f v h) (first_none (Into v) (length to) (length to) (length to) (omega arith) (omega arith) (omega arith) last);
    next = λ e a b. absurd (omega (arith, a, b));
  }

  pub linked_more : (entries : List ℕ) (e v : ℕ) → length entries ≡ most_nodes + most_edges → length to ≤ most_edges → e < length to → v < most_nodes
      → v ≡ get_or to e 0
      → EdgeLists to entries (e + 1) → EdgeLists to (set (set entries (most_nodes + e) (get_or entries v 0)) v e) e
  linked_more entries e v long few h v64 at y = record { first = first; next = next }
    where
      mid : List ℕ
      mid = set entries (most_nodes + e) (get_or entries v 0)

      first : (w : ℕ) → w < most_nodes → FirstFrom (Into w) e (length to) (get_or (set mid v e) w 0)
      first w w64 = go (ℕ_discrete w v)
        where
          go : Dec (w ≡ v) → FirstFrom (Into w) e (length to) (get_or (set mid v e) w 0)
          go (yes p) =
              let q = get_or-set_same mid v e 0 (omega (arith, length-set entries (most_nodes + e) (get_or entries v 0))) in
              rw (p, q) (first_here (Into v) e (length to) e (omega arith) h (passed_none (Into v) e) (sym at))
          go (no p) =
              let q = get_or-set_other mid v w e 0 p ∙ get_or-set_other entries (most_nodes + e) w (get_or entries v 0) 0 (λ z. omega (arith, z)) in
              rw q (first_lower (Into w) e (length to) (get_or entries w 0) (y.first w w64) (λ z. p (sym z ∙ sym at)))

      next : (x : ℕ) → e ≤ x → x < length to → FirstFrom (Into (get_or to x 0)) (x + 1) (length to) (get_or (set mid v e) (most_nodes + x) 0)
      next x a b = go (ℕ_discrete x e)
        where
          other : get_or (set mid v e) (most_nodes + x) 0 ≡ get_or mid (most_nodes + x) 0
          other = get_or-set_other mid v (most_nodes + x) e 0 (λ z. omega (arith, z))

          go : Dec (x ≡ e) → FirstFrom (Into (get_or to x 0)) (x + 1) (length to) (get_or (set mid v e) (most_nodes + x) 0)
          go (yes p) = rw (other, p, get_or-set_same entries (most_nodes + e) (get_or entries v 0) 0 (omega arith), ← at) (y.first v v64)
          go (no p) =
              let q = get_or-set_other entries (most_nodes + e) (most_nodes + x) (get_or entries v 0) 0 (λ z. p (omega (arith, z))) in
              rw (other, q) (y.next x (omega (arith, p)) b)

  module _ (links : List ℕ) (linked : EdgeLists to links 0) (u e e' : ℕ) where
    pub first_into : u < most_nodes → e ≡ get_or links u 0 → FirstFrom (Into u) 0 (length to) e
    first_into h q = rw q (linked.first u h)

    pub next_into : e < length to → get_or to e 0 ≡ u → e' ≡ get_or links (most_nodes + e) 0 → FirstFrom (Into u) (e + 1) (length to) e'
    next_into h p q = rw (q, ← p) (linked.next e (omega arith) h)
