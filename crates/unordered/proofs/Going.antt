-- Going along the edges of a pair.
-- Assumes nothing.
use mathlib.Core.List.{List}
use mathlib.Core.Path.{◌≡◌, sym, subst, ◌∙◌}
use Prim.Native.Nat.{ℕ, ◌<◌}
use native.Mathlib.Omega.{arith}
use lib.ListN.{length, get_or}
use Rattle.std.specs.Prelude.{Some}
use Rattle.graph.specs.Graph.{no_edge}
use Rattle.graph.specs.declared.Edge.{Edge}
use Rattle.graph.specs.Limits.{most_nodes}
use Rattle.route.specs.declared.AtNode.{AtNode}
use Rattle.route.specs.declared.Links.{Links}
use Rattle.route.specs.Way.{EdgeLists, Net, starts, ends}
use Rattle.route.proofs.Along.{Steps, Over, over_next}
use Rattle.route.proofs.Listed.{end_of, starts_all}
use Rattle.sets.specs.Whole.{rows}
use Rattle.unordered.specs.declared.pairs.Pair.{Pair}
use Rattle.unordered.proofs.Trails.{Query}
use Rattle.unordered.proofs.Turns.{Turn, Looking}

-- the search over the edges of a graph
abbrev pub query : List Edge → List (List ℕ) → List ℕ → ℕ → ℕ → Query
query edges fits left a goal = record { from = starts edges; to = ends edges; left = left; fits = rows fits; a = a; goal = goal }

-- the edge that the iterator gives is the next that is looked at
pub going : (edges : List Edge) (links : Links) (fits : List (List ℕ)) {left : List ℕ} {a goal : ℕ} {ps : List Pair} {words : List ℕ} {i ordered e : ℕ} (s t : AtNode)
    → EdgeLists (starts edges) links.entries 0
    → Over links (length edges) s → Turn (query edges fits left a goal) ps words i ordered s.next → Steps s (Some e) t
    → Over links (length edges) t × Looking (query edges fits left a goal) links.entries ps words i ordered e t.next
going edges links fits {left} {a} {goal} {ps} {words} {i} {ordered} s t linked o turn step =
    let on = over_next s t o step in (
      on.0,
      record {
        turn = subst (λ (x : ℕ). Turn (query edges fits left a goal) ps words i ordered x) (sym on.1) turn;
        known = omega (arith, on.2, starts_all edges);
        linked = linked;
        next = on.3;
      },
    )

-- where an edge leads
pub leads_to : (edges : List Edge) {e y : ℕ} → Net (starts edges) (ends edges) → y ≡ (get_or edges e no_edge).to → e < length (starts edges)
    → (y ≡ get_or (ends edges) e 0) × (y < most_nodes)
leads_to edges {e} net q h = let at = q ∙ sym (end_of edges e) in (at, omega (arith, at, net.head e h))
