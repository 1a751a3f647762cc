-- A fence put on an edge of a graph by value, or taken off one, is put on or taken off that edge of its graph.
-- Assumes nothing.
use mathlib.Core.List.{List, [], ◌++◌, ◌∷◌}
use mathlib.Core.Path.{◌∙◌, ◌≡◌, ap, sym}
use Prim.Native.Nat.{◌-◌, ◌<◌, ℕ}
use lib.ListN.{get_or, length, set, take}
use lib.Seq.{get_or-take}
use Rattle.graph.specs.declared.Edge.{Edge}
use Rattle.graph.specs.declared.Label.TheVariants.{Fence}
use Rattle.graph.specs.declared.Node.{Node}
use Rattle.graph.specs.Graph.{Graph, no_edge}
use Rattle.graph.specs.Strip.{joined}
use Rattle.graph.specs.Value.{labels}
use Rattle.graph.specs.Written.{fenced}
use Rattle.graph.proofs.Value.{labels_append, labels_length, labels_take}

-- the edge e, ending at v, and going on from v
abbrev pub up_to : Edge → ℕ → Edge
up_to e v = record { from = e.from; to = v; weight = e.weight }

abbrev pub on_from : ℕ → Edge → Edge
on_from v e = record { from = v; to = e.to; weight = e.weight }

pub fence_put : (ns ms : List Node) (es fs : List Edge) (i v : ℕ) → v ≡ length ns → ms ≡ ns ++ record { label = Fence } ∷ []
    → fs ≡ set es i (up_to (get_or es i no_edge) v) ++ on_from v (get_or es i no_edge) ∷ []
    → ◌≡◌ {A = Graph} (record { nodes = labels ms; edges = fs }) (fenced (record { nodes = labels ns; edges = es }) i)
fence_put ns ms es fs i v at nodes edges = λ k. record { nodes = new_nodes k; edges = new_edges k }
  where
    e : Edge
    e = get_or es i no_edge

    new_nodes : labels ms ≡ labels ns ++ Fence ∷ []
    new_nodes = ap labels nodes ∙ labels_append ns (record { label = Fence } ∷ [])

    new_edges : fs ≡ set es i (up_to e (length (labels ns))) ++ on_from (length (labels ns)) e ∷ []
    new_edges = edges ∙ ap (λ (n : ℕ). set es i (up_to e n) ++ on_from n e ∷ []) (at ∙ sym (labels_length ns))

pub rejoin_made : (ns ms : List Node) (es rest fs : List Edge) (i : ℕ) (last : Edge) → ms ≡ take (length ns - 1) ns → rest ≡ take (length es - 1) es
    → i < length es - 1 → last ≡ get_or es (length es - 1) no_edge
    → fs ≡ set rest i (record { from = (get_or rest i no_edge).from; to = last.to; weight = (get_or rest i no_edge).weight })
    → ◌≡◌ {A = Graph} (record { nodes = labels ms; edges = fs }) (joined (record { nodes = labels ns; edges = es }) (length ns - 1) i (length es - 1))
rejoin_made ns ms es rest fs i last nodes front low end edges = λ k. record { nodes = new_nodes k; edges = (edges ∙ new_edges) k }
  where
    new_nodes : labels ms ≡ take (length ns - 1) (labels ns)
    new_nodes = ap labels nodes ∙ labels_take (length ns - 1) ns

    kept : get_or rest i no_edge ≡ get_or es i no_edge
    kept = ap (λ (l : List Edge). get_or l i no_edge) front ∙ get_or-take (length es - 1) es i no_edge low

    new_edges : set rest i (record { from = (get_or rest i no_edge).from; to = last.to; weight = (get_or rest i no_edge).weight })
        ≡ (joined (record { nodes = labels ns; edges = es }) (length ns - 1) i (length es - 1)).edges
    new_edges = λ k. set (front k) i (record { from = (kept k).from; to = (end k).to; weight = (kept k).weight })
