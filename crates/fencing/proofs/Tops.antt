-- The loose node, from what the scans of the edges find: a law for each way out.
-- Assumes nothing.
use mathlib.Core.List.{List}
use mathlib.Core.Path.{◌≡◌, refl, subst, subst₂, sym}
use Prim.Native.Nat.{suc, ◌+◌, ◌-◌, ◌<◌, ◌≤◌, ℕ}
use native.Mathlib.Decide.{dec_lt, ℕ_discrete}
use native.Mathlib.Omega.{arith}
use mathlib.Core.Bool.{false, true, true≢false}
use lib.ListN.{get_or, length}
use Rattle.std.specs.Prelude.{None, Option, Some, is_some}
use Rattle.graph.specs.declared.Edge.{Edge}
use Rattle.graph.specs.declared.Graph as Value
use Rattle.graph.specs.declared.Node.{Node}
use Rattle.graph.specs.declared.Label.TheVariants.{Fence}
use Rattle.graph.specs.Value.{graph_of, labels}
use Rattle.graph.proofs.Value.{label_at, labels_length}
use Rattle.graph.specs.Graph.{Graph, edge, label}
use Rattle.graph.specs.Scan.{FirstIn}
use Rattle.graph.specs.Strip.{Loose}
use Rattle.fencing.specs.Left.{Top}

abbrev pub Ends : Graph → ℕ → ℕ → Type 0
Ends g v j = (edge g j).to ≡ v

abbrev pub Starts : Graph → ℕ → ℕ → Type 0
Starts g v j = (edge g j).from ≡ v

module _ {g : Graph} {v m : ℕ} (highest : length g.nodes ≡ suc v) (last : length g.edges ≡ suc m) where
  -- only the highest node can be loose, and only with the last edge
  denied : ((k : ℕ) → Loose g v k m → ⊥) → Top g None
  denied f v' k m' x = f k (subst₂ (λ (a b : ℕ). Loose g a k b) (omega (arith, highest, x.highest)) (omega (arith, last, x.last)) x)

  -- way out: the highest node is no fence
  pub none_fence : (label g v ≡ Fence → ⊥) → Top g None
  none_fence f = denied (λ k x. f x.is_fence)

  -- way out: no edge ends there
  pub none_end : FirstIn (Ends g v) 0 (length g.edges) None → Top g None
  none_end none = denied (λ k x. none k (omega arith) (omega (arith, x.two, last)) x.ends)

  -- way out: no edge but the last ends there
  pub none_before : {i : ℕ} → FirstIn (Ends g v) 0 (length g.edges) (Some i) → i ≡ m → Top g None
  none_before ends e = denied (λ k x. ends.3 k (omega arith) (omega (arith, x.two)) x.ends)

  -- way out: a second edge ends there
  pub none_second : {i : ℕ} (r : Option ℕ) → FirstIn (Ends g v) 0 (length g.edges) (Some i) → FirstIn (Ends g v) (i + 1) (length g.edges) r
      → is_some r ≡ true → Top g None
  none_second None ends more e = absurd (true≢false (sym e))
  none_second {i} (Some j) ends more e = denied (λ k x.
      let ik : i ≡ k = x.ends_only i ends.1 ends.2 in
      let jk : j ≡ k = x.ends_only j more.1 more.2 in
      let z : ⊥ = omega (arith, more.0) in
      z)

  -- way out: no edge starts there, or one before the last
  pub none_start : (r : Option ℕ) → FirstIn (Starts g v) 0 (length g.edges) r → (r ≡ Some m → ⊥) → Top g None
  none_start None starts f = denied (λ k x. starts m (omega arith) (omega (arith, last)) x.starts)
  none_start (Some j) starts f = denied (λ k x. f (let e : j ≡ m = x.starts_only j starts.1 starts.2 in rw e refl))

  -- no way out taken: the highest node is loose
  pub loose_there : {i : ℕ} → label g v ≡ Fence → FirstIn (Ends g v) 0 (length g.edges) (Some i) → (i ≡ m → ⊥) → FirstIn (Ends g v) (i + 1) (length g.edges) None
      → FirstIn (Starts g v) 0 (length g.edges) (Some m) → (edge g i).weight ≡ (edge g m).weight
      → FirstIn (λ j. ((edge g j).from ≡ (edge g i).from) × ((edge g j).to ≡ (edge g m).to)) 0 (length g.edges) None → Top g (Some i)
  loose_there {i} is_fence ends two no_more starts agree new = (
    v,
    m,
    record {
      highest = highest;
      last = last;
      is_fence = is_fence;
      two = omega (arith, ends.1, last, two);
      ends = ends.2;
      ends_only = λ q h e. only q h e (dec_lt q i) (ℕ_discrete q i);
      starts = starts.2;
      starts_only = λ q h e. first_only q h e (ℕ_discrete q m);
      agree = agree;
      new = λ q h e t. new q (omega arith) h (e, t);
    },
  )
    where
      only : (q : ℕ) → q < length g.edges → Ends g v q → Dec (q < i) → Dec (q ≡ i) → q ≡ i
      only q h e w (yes d) = d
      only q h e (yes w) (no d) = absurd (ends.3 q (omega arith) w e)
      only q h e (no w) (no d) = absurd (no_more q (omega (arith, d, w)) h e)

      first_only : (q : ℕ) → q < length g.edges → Starts g v q → Dec (q ≡ m) → q ≡ m
      first_only q h e (yes d) = d
      first_only q h e (no d) = absurd (starts.3 q (omega arith) (omega (arith, d, last)) e)

-- as the code reads the graph: how many nodes, and the edges
pub read : (g : Value.Graph) (r : Option ℕ) {n v m : ℕ} {es : List Edge} → n ≡ length g.nodes.items → (1 ≤ n) × (v ≡ n - 1) → es ≡ g.edges.items
    → (1 ≤ length es) × (m ≡ length es - 1)
    → (length (labels g.nodes.items) ≡ suc v → length es ≡ suc m → Top (record { nodes = labels g.nodes.items; edges = es }) r) → Top (graph_of g) r
read g r nodes top edges last f =
    subst (λ (l : List Edge). Top (record { nodes = labels g.nodes.items; edges = l }) r) edges
    (f (omega (arith, labels_length g.nodes.items)) (omega arith))

-- the label that is read is the graph's
pub label_read : (g : Value.Graph) {v : ℕ} {ns : List Node} → length (labels g.nodes.items) ≡ suc v → ns ≡ g.nodes.items → (d : Node)
    → label (graph_of g) v ≡ (get_or ns v d).label
label_read g {v} top nodes d = rw nodes (label_at g v d (omega (arith, labels_length g.nodes.items)))

-- what the test of a scan's answer says of it
pub nothing : (r : Option ℕ) → is_some r ≡ false → r ≡ None
nothing None e = refl
nothing (Some j) e = absurd (true≢false e)
