-- Held without the cut's edges, held in the graph written: an order's route either has one of the new fences inside, or is an old route on none of them.
-- Assumes nothing.
use mathlib.Core.List.{List, [], ◌∷◌, ◌++◌, Memᴰ, append-nil}
use mathlib.Core.Logic.{◌⊎◌, inl, inr, ◌≢◌}
use mathlib.Core.Path.{◌≡◌, refl, sym, ap, ◌∙◌, fun_ext, subst, subst⁻¹}
use Prim.Native.Nat.{ℕ, zero, suc, ◌+◌, ◌<◌}
use native.Mathlib.Decide.{ℕ_discrete, dec_lt}
use native.Mathlib.Omega.{arith}
use lib.ListN.{length, get_or, set, length-append, length-set, get_or-append}
use lib.Seq.{get_or-set_same, get_or-set_other, get_or-append_seam}
use Rattle.graph.specs.declared.Edge.{Edge}
use Rattle.graph.specs.declared.Label.{Label}
use Rattle.graph.specs.declared.Label.TheVariants.{Fence}
use Rattle.graph.specs.declared.Order.{Order}
use Rattle.graph.specs.declared.Rule.{Rule}
use Rattle.graph.specs.declared.Side.TheVariants.{Any, Is}
use Rattle.graph.specs.Cut.{Rising, Separates}
use Rattle.graph.specs.Fit.{Ruled}
use Rattle.graph.specs.Graph.{Graph, label, edge, no_edge}
use Rattle.graph.specs.Held.{Linked, by_rule, Absent, Within, Step, Follows, Orders, HeldWithout, Held, by_way}
use Rattle.graph.specs.Written.{fenced, written, FenceRules}
use Rattle.graph.proofs.Lists.{each_map, split}
use Rattle.graph.proofs.Walked.{follows_up}

-- each label is ordered before a later fence and after an earlier one
abbrev pub Fencing : List Rule → Type 0
Fencing rules = (p : Label) → Ruled rules p Fence × Ruled rules Fence p

pub fencing_so : {rules : List Rule} → FenceRules rules → Fencing rules
fencing_so r p =
    ((record { left = Any; right = (Is Fence) }, r.to_fence, (λ v. v, tt, tt)), (record { left = (Is Fence); right = Any }, r.from_fence, (λ v. v, tt, tt)))

-- a fence between orders the ends
pub fence_orders : {rules : List Rule} → Fencing rules → (l : ℕ → Label) (v : ℕ) → l v ≡ Fence → (a b : ℕ) (before after : List ℕ)
    → Linked rules l a (before ++ v ∷ after) b
fence_orders {rules} has l v e a b before after =
    by_way v before after refl (by_rule (subst⁻¹ (λ (x : Label). Ruled rules (l a) x) e (has (l a)).0))
    (by_rule (subst⁻¹ (λ (x : Label). Ruled rules x (l b)) e (has (l b)).1))

-- the two edges that a fence makes of one
abbrev pub into : Graph → ℕ → Edge
into g e = record { from = (edge g e).from; to = length g.nodes; weight = (edge g e).weight }

abbrev pub out_of : Graph → ℕ → Edge
out_of g e = record { from = length g.nodes; to = (edge g e).to; weight = (edge g e).weight }

-- two edges agree in ends and weight
abbrev pub Agree : Edge → Edge → Type 0
Agree x y = (x.from ≡ y.from) × (x.to ≡ y.to) × (x.weight ≡ y.weight)

pub agree : {x y : Edge} → x ≡ y → Agree x y
agree e = (ap (λ (z : Edge). z.from) e, ap (λ (z : Edge). z.to) e, ap (λ (z : Edge). z.weight) e)

-- where an edge of the fenced graph comes from
abbrev pub Place : Graph → ℕ → ℕ → Type 0
Place g e i =
    ((i < length g.edges) × (i ≢ e) × Agree (edge (fenced g e) i) (edge g i))
    ⊎ (((i ≡ e) × Agree (edge (fenced g e) i) (into g e)) ⊎ ((i ≡ length g.edges) × Agree (edge (fenced g e) i) (out_of g e)))

module _ (g : Graph) (e : ℕ) (fits : e < length g.edges) where
  pub fenced_count : length (fenced g e).edges ≡ suc (length g.edges)
  fenced_count = simp (length-append, length-set) (omega arith)

  -- whatever the two edges are that come in the place of e and at the end
  module _ (x y : Edge) where
    other_kept : (i : ℕ) → i < length g.edges → i ≢ e → get_or (set g.edges e x ++ (y ∷ [])) i no_edge ≡ get_or g.edges i no_edge
    other_kept i h d =
        let h' : i < length (set g.edges e x) = rw length-set h in
        get_or-append (set g.edges e x) (y ∷ []) no_edge i h' ∙ get_or-set_other g.edges e i x no_edge d

    first_put : get_or (set g.edges e x ++ (y ∷ [])) e no_edge ≡ x
    first_put =
        let h' : e < length (set g.edges e x) = rw length-set fits in
        get_or-append (set g.edges e x) (y ∷ []) no_edge e h' ∙ get_or-set_same g.edges e x no_edge fits

    second_put : get_or (set g.edges e x ++ (y ∷ [])) (length g.edges) no_edge ≡ y
    second_put =
        subst (λ (k : ℕ). get_or (set g.edges e x ++ (y ∷ [])) k no_edge ≡ y) (length-set g.edges e x)
        (get_or-append_seam (set g.edges e x) y [] no_edge)

  pub edge_other : (i : ℕ) → i < length g.edges → i ≢ e → edge (fenced g e) i ≡ edge g i
  edge_other i h d = other_kept _ _ i h d

  pub edge_same : edge (fenced g e) e ≡ into g e
  edge_same = first_put _ _

  pub edge_new : edge (fenced g e) (length g.edges) ≡ out_of g e
  edge_new = second_put _ _

  pub place : (i : ℕ) → i < length (fenced g e).edges → Place g e i
  place i h = elim (dec_lt i (length g.edges)) [
    | yes l ↦ elim (ℕ_discrete i e) [ yes s ↦ inr (inl (s, agree (ap (edge (fenced g e)) s ∙ edge_same))) | no d ↦ inl (l, d, agree (edge_other i l d)) ]
    | no l ↦
        let s : i ≡ length g.edges = omega (arith, fenced_count) in
        inr (inr (s, agree (ap (edge (fenced g e)) s ∙ edge_new)))
  ]

  -- a step of the fenced graph between other nodes than the fence is a step of the old one, and not on e
  pub old_step : (c : List ℕ) (x y : ℕ) → x ≢ length g.nodes → y ≢ length g.nodes → Step (fenced g e) c x y → Step g (e ∷ c) x y
  old_step c x y p q (i, h, out, f, t) = elim (place i h) [
    | inl o ↦ (i, o.0, (o.1, out), sym o.2.0 ∙ f, sym o.2.1 ∙ t)
    | inr o ↦ absurd (elim o [ inl k ↦ q (sym t ∙ k.1.1) | inr k ↦ p (sym f ∙ k.1.0) ])
  ]

  pub old_follows : (c : List ℕ) (a b : ℕ) (between : List ℕ) → a ≢ length g.nodes → Absent (length g.nodes) between → b ≢ length g.nodes
      → Follows (Step (fenced g e) c) a between b → Follows (Step g (e ∷ c)) a between b
  old_follows c a b [] p _ q s = old_step c a b p q s
  old_follows c a b (x ∷ between) p away q s =
      let p' : x ≢ length g.nodes = λ z. away.0 (sym z) in
      (old_step c a x p p' s.0, old_follows c x b between p' away.1 q s.1)

-- past the nodes a label reads as the fence, so a new fence changes no label
get_or_snoc : (l : List Label) (x : ℕ) → get_or (l ++ (Fence ∷ [])) x Fence ≡ get_or l x Fence
get_or_snoc [] zero = refl
get_or_snoc [] (suc x) = refl
get_or_snoc (y ∷ l) zero = refl
get_or_snoc (y ∷ l) (suc x) = get_or_snoc l x

pub same_labels : (g : Graph) (e : ℕ) → label (fenced g e) ≡ label g
same_labels g e = fun_ext (get_or_snoc g.nodes)

pub orders_up : {rules : List Rule} (g : Graph) (e a : ℕ) (between : List ℕ) (b : ℕ) → Orders g rules a between b → Orders (fenced g e) rules a between b
orders_up {rules} g e a between b o = subst⁻¹ (λ (l : ℕ → Label). Linked rules l a between b) (same_labels g e) o

-- held on the routes that avoid e and c: held, once e has a fence, on those that avoid c
pub held_fenced : {rules : List Rule} → Fencing rules → (g : Graph) (e : ℕ) → e < length g.edges → (c : List ℕ) (a b : ℕ)
    → a < length g.nodes → b < length g.nodes → HeldWithout g rules (e ∷ c) a b → HeldWithout (fenced g e) rules c a b
held_fenced {rules} has g e fits c a b a< b< held between r = elim (split n between) [
  | inl (before, after, same) ↦
      subst⁻¹ (λ (m : List ℕ). Linked rules (label (fenced g e)) a m b) same
      (fence_orders has (label (fenced g e)) n (get_or-append_seam g.nodes Fence [] Fence) a b before after)
  | inr away ↦
      orders_up g e a between b (held between record {
        follows = old_follows g e fits c a b between (omega arith) away (omega arith) r.follows;
        once = r.once;
      })
]
  where
    n : ℕ
    n = length g.nodes

-- the rest of a cut lies within the edges still
pub later_within : (g : Graph) (e : ℕ) (c : List ℕ) → Within (length g.edges) (e ∷ c) → Within (length (fenced g e).edges) c
later_within g e c w =
    each_map (λ i. i < length g.edges) (λ i. i < length (fenced g e).edges) c (λ i h. omega (arith, fenced_count g e w.0, h)) w.1

-- held on the routes that avoid c: held in the graph with a fence at each of c
pub held_written : {rules : List Rule} → Fencing rules → (g : Graph) (c : List ℕ) → Within (length g.edges) c → (a b : ℕ)
    → a < length g.nodes → b < length g.nodes → HeldWithout g rules c a b → HeldWithout (written g c) rules [] a b
held_written has g [] w a b a< b< held = held
held_written has g (e ∷ c) w a b a< b< held =
    let m : length (fenced g e).nodes ≡ length g.nodes + 1 = length-append g.nodes (Fence ∷ []) in
    held_written has (fenced g e) c (later_within g e c w) a b (omega arith) (omega arith) (held_fenced has g e w.0 c a b a< b< held)

-- a route that avoids c avoids nothing
free_step : (g : Graph) (c : List ℕ) (x y : ℕ) → Step g c x y → Step g [] x y
free_step g c x y (i, h, out, f, t) = (i, h, tt, f, t)

pub held_without : {rules : List Rule} (g : Graph) (c : List ℕ) (a b : ℕ) → HeldWithout g rules [] a b → HeldWithout g rules c a b
held_without g c a b held between r = held between record { follows = follows_up (free_step g c) a between b r.follows; once = r.once }

pub rising_within : (lo m : ℕ) (c : List ℕ) → Rising lo m c → Within m c
rising_within lo m [] r = tt
rising_within lo m (x ∷ c) r = (r.1, rising_within (suc x) m c r.2)

-- demand 2: in the graph written every asked order is held
pub asked_held : {rules : List Rule} → FenceRules rules → (g : Graph) (orders : List Order) (c : List ℕ) → Rising 0 (length g.edges) c
    → Separates g rules orders c
    → (o : Order) → Memᴰ o orders → o.first < length g.nodes → o.second < length g.nodes → Held (written g c) rules o
asked_held has g orders c r sep o m a< b< = held_written (fencing_so has) g c (rising_within 0 (length g.edges) c r) o.first o.second a< b< (sep o m)

-- ---- the other way: held in the graph written, held on the routes that avoid the edges with a fence

orders_down : {rules : List Rule} (g : Graph) (e a : ℕ) (between : List ℕ) (b : ℕ) → Orders (fenced g e) rules a between b → Orders g rules a between b
orders_down {rules} g e a between b o = subst (λ (l : ℕ → Label). Linked rules l a between b) (same_labels g e) o

module _ (g : Graph) (e : ℕ) (fits : e < length g.edges) where
  new_step : (c : List ℕ) (x y : ℕ) → Step g (e ∷ c) x y → Step (fenced g e) c x y
  new_step c x y (i, h, (d, out), f, t) =
      let o = edge_other g e fits i h d in
      (i, omega (arith, fenced_count g e fits), out, ap (λ (z : Edge). z.from) o ∙ f, ap (λ (z : Edge). z.to) o ∙ t)

  fenced_held : {rules : List Rule} (c : List ℕ) (a b : ℕ) → HeldWithout (fenced g e) rules c a b → HeldWithout g rules (e ∷ c) a b
  fenced_held c a b held between r =
      orders_down g e a between b (held between record { follows = follows_up (new_step c) a between b r.follows; once = r.once })

written_held : {rules : List Rule} (g : Graph) (c d : List ℕ) → Within (length g.edges) c → (a b : ℕ) → HeldWithout (written g c) rules d a b
    → HeldWithout g rules (c ++ d) a b
written_held g [] d w a b held = held
written_held g (e ∷ c) d w a b held =
    fenced_held g e w.0 (c ++ d) a b (written_held (fenced g e) c d (later_within g e c w) a b held)

-- a set separates if, each of its edges given a fence, every asked order is held
pub held_separates : {rules : List Rule} (g : Graph) (orders : List Order) (c : List ℕ) → Rising 0 (length g.edges) c
    → ((o : Order) → Memᴰ o orders → Held (written g c) rules o) → Separates g rules orders c
held_separates {rules} g orders c r held o m =
    subst (λ (l : List ℕ). HeldWithout g rules l o.first o.second) (append-nil c)
    (written_held g c [] (rising_within 0 (length g.edges) c r) o.first o.second (held o m))
