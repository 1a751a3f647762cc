-- What a graph by value holds: how many of each, and which.
-- Assumes nothing.
use mathlib.Core.List.{List, [], ◌++◌, ◌∷◌}
use mathlib.Core.Path.{◌≡◌, ap, refl}
use Prim.Native.Nat.{◌<◌, suc, ℕ, zero}
use native.Mathlib.Nat.{le_of_suc-le-suc, not-suc-le-zero}
use lib.ListN.{get_or, length, take}
use Rattle.graph.specs.declared.Label.{Label}
use Rattle.graph.specs.declared.Label.TheVariants.{Fence}
use Rattle.graph.specs.declared.Node.{Node}
use Rattle.graph.specs.Graph.{label}
use Rattle.graph.specs.Value.{graph_of, labels}
use Rattle.graph.specs.declared.Graph as Value

pub labels_append : (xs ys : List Node) → labels (xs ++ ys) ≡ labels xs ++ labels ys
labels_append [] ys = refl
labels_append (x ∷ xs) ys = ap (λ (l : List Label). x.label ∷ l) (labels_append xs ys)

pub labels_length : (ns : List Node) → length (labels ns) ≡ length ns
labels_length [] = refl
labels_length (n ∷ ns) = ap suc (labels_length ns)

pub node_total : (g : Value.Graph) → length (graph_of g).nodes ≡ length g.nodes.items
node_total g = labels_length g.nodes.items

labels_at : (ns : List Node) (v : ℕ) (d : Node) → v < length ns → get_or (labels ns) v Fence ≡ (get_or ns v d).label
labels_at [] v d h = absurd (not-suc-le-zero h)
labels_at (n ∷ ns) zero d h = refl
labels_at (n ∷ ns) (suc v) d h = labels_at ns v d (le_of_suc-le-suc h)

-- whatever is read past the last
pub label_at : (g : Value.Graph) (v : ℕ) (d : Node) → v < length g.nodes.items → label (graph_of g) v ≡ (get_or g.nodes.items v d).label
label_at g v d h = labels_at g.nodes.items v d h

pub labels_take : (n : ℕ) (ns : List Node) → labels (take n ns) ≡ take n (labels ns)
labels_take zero ns = refl
labels_take (suc n) [] = refl
labels_take (suc n) (x ∷ ns) = ap (λ (l : List Label). x.label ∷ l) (labels_take n ns)
