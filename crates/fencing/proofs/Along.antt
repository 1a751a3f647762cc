-- Fences put on one flag after the other: what holds after i flags.
-- Assumes nothing.
use mathlib.Core.Bool.{Bool, false, true}
use mathlib.Core.List.{List}
use mathlib.Core.Path.{◌∙◌, ◌≡◌, ap, sym}
use Prim.Native.Nat.{◌+◌, ◌<◌, ◌≤◌, suc, ℕ}
use native.Mathlib.Omega.{arith}
use lib.ListN.{drop, get_or, length}
use Rattle.fencing.specs.Kept.{Kept}
use Rattle.graph.specs.Graph.{Graph}
use Rattle.graph.specs.Value.{graph_of, rising}
use Rattle.graph.specs.Written.{fenced, written}
use Rattle.fencing.proofs.Flags.{rising_no, rising_yes}
use Rattle.fencing.proofs.Keeping.{kept_then}
use Rattle.graph.specs.declared.Graph as Value

-- the edges from i on that are to be cut
abbrev pub left : List Bool → ℕ → List ℕ
left flags i = rising i (drop i flags)

-- r is g with the fences of the first i flags on
abbrev pub Along : List Bool → Value.Graph → Value.Graph → ℕ → Type 0
Along flags g r i =
    (written (graph_of r) (left flags i) ≡ written (graph_of g) (rising 0 flags))
    × (length r.nodes.items + length (left flags i) ≡ length g.nodes.items + length (rising 0 flags))
    × (length r.edges.items + length (left flags i) ≡ length g.edges.items + length (rising 0 flags))
    × (length g.edges.items ≤ length r.edges.items)
    × Kept g r

module _ (flags : List Bool) (g r : Value.Graph) (i : ℕ) (h : i < length flags) (a : Along flags g r i) where
  pub along_no : get_or flags i false ≡ false → Along flags g r (i + 1)
  along_no e = let c = rising_no flags i h e in (
    ap (written (graph_of r)) (sym c) ∙ a.0,
    ap (λ (l : List ℕ). length r.nodes.items + length l) (sym c) ∙ a.1,
    ap (λ (l : List ℕ). length r.edges.items + length l) (sym c) ∙ a.2,
    a.3,
    a.4,
  )

  pub along_yes : get_or flags i false ≡ true → {s : Value.Graph} → graph_of s ≡ fenced (graph_of r) i
      → (length s.nodes.items ≡ length r.nodes.items + 1) × (length s.edges.items ≡ length r.edges.items + 1) → Kept r s → Along flags g s (i + 1)
  along_yes e f n k =
      let one : length (left flags i) ≡ suc (length (left flags (i + 1))) = ap length (rising_yes flags i h e) in (
        ap (λ (x : Graph). written x (left flags (i + 1))) f ∙ sym (ap (written (graph_of r)) (rising_yes flags i h e)) ∙ a.0,
        omega (arith, n.0, a.1, one),
        omega (arith, n.1, a.2, one),
        omega (arith, n.1, a.3),
        kept_then a.4 k,
      )
