-- A fence put in can be taken off, and that gives the graph before.
-- Assumes nothing.
use mathlib.Core.List.{List, [], ◌∷◌}
use mathlib.Core.Logic.{inl, inr}
use mathlib.Core.Path.{◌≡◌, refl, sym, ap₂, ◌∙◌, subst₃, ap, subst, subst⁻¹}
use Prim.Native.Nat.{ℕ, suc, ◌+◌, ◌<◌, ◌≤◌}
use native.Mathlib.Nat.{add_assoc, zero-add}
use native.Mathlib.Omega.{arith}
use lib.ListN.{length, set, take, length-append, length-set}
use lib.Seq.{get_or-append_seam, take_at, length-take-le, set-set, set-get_or}
use Rattle.graph.specs.declared.Edge.{Edge}
use Rattle.graph.specs.declared.Label.TheVariants.{Fence}
use Rattle.graph.specs.Cut.{weight}
use Rattle.graph.specs.Graph.{Graph, Sound, edge, no_edge}
use Rattle.graph.specs.Held.{Within}
use Rattle.graph.specs.Strip.{Loose, joined, Stripped, done, take_off}
use Rattle.graph.specs.Written.{fenced, written}
use Rattle.graph.proofs.Says.{decide, says_eq}
use Rattle.graph.proofs.Written.{Place, into, later_within, out_of, place, fenced_count, edge_other, edge_same, edge_new}

abbrev pub start : Graph → ℕ → ℕ
start g i = (edge g i).from

abbrev pub end : Graph → ℕ → ℕ
end g i = (edge g i).to

abbrev pub cost : Graph → ℕ → ℕ
cost g i = (edge g i).weight

module _ (g : Graph) (e : ℕ) (fits : e < length g.edges) where
  pub node_count : length (fenced g e).nodes ≡ suc (length g.nodes)
  node_count = simp length-append (omega arith)

  module _ (sound : Sound g) where
    pub sound_fenced : Sound (fenced g e)
    sound_fenced = record { ends = λ i h. ends i (place g e fits i h); pairs = λ i j hi hj f t. pairs i j f t (place g e fits i hi) (place g e fits j hj) }
      where
        ends : (i : ℕ) → Place g e i
            → (start (fenced g e) i < length (fenced g e).nodes) × (end (fenced g e) i < length (fenced g e).nodes) × (1 ≤ cost (fenced g e) i)
        ends i (inl p) = let k = sound.ends i p.0 in let c = node_count in omega arith
        ends i (inr (inl p)) = let k = sound.ends e fits in let c = node_count in omega arith
        ends i (inr (inr p)) = let k = sound.ends e fits in let c = node_count in omega arith

        pairs : (i j : ℕ) → start (fenced g e) i ≡ start (fenced g e) j → end (fenced g e) i ≡ end (fenced g e) j → Place g e i → Place g e j → i ≡ j
        pairs i j f t (inl p) (inl q) = sound.pairs i j p.0 q.0 (sym p.2.0 ∙ f ∙ q.2.0) (sym p.2.1 ∙ t ∙ q.2.1)
        pairs i j f t (inl p) (inr (inl q)) = let k = sound.ends i p.0 in omega arith
        pairs i j f t (inl p) (inr (inr q)) = let k = sound.ends i p.0 in omega arith
        pairs i j f t (inr (inl p)) (inl q) = let k = sound.ends j q.0 in omega arith
        pairs i j f t (inr (inl p)) (inr (inl q)) = omega arith
        pairs i j f t (inr (inl p)) (inr (inr q)) = let k = sound.ends e fits in omega arith
        pairs i j f t (inr (inr p)) (inl q) = let k = sound.ends j q.0 in omega arith
        pairs i j f t (inr (inr p)) (inr (inl q)) = let k = sound.ends e fits in omega arith
        pairs i j f t (inr (inr p)) (inr (inr q)) = omega arith

    -- the new node is loose
    pub loose_fenced : Loose (fenced g e) (length g.nodes) e (length g.edges)
    loose_fenced = record {
      highest = node_count;
      last = fenced_count g e fits;
      is_fence = get_or-append_seam g.nodes Fence [] Fence;
      two = fits;
      ends = ap (λ (x : Edge). x.to) (edge_same g e fits);
      ends_only = λ j h t. ends_only j t (place g e fits j h);
      starts = ap (λ (x : Edge). x.from) (edge_new g e fits);
      starts_only = λ j h f. starts_only j f (place g e fits j h);
      agree = ap (λ (x : Edge). x.weight) (edge_same g e fits) ∙ sym (ap (λ (x : Edge). x.weight) (edge_new g e fits));
      new = λ j h f t. new j (f ∙ ap (λ (x : Edge). x.from) (edge_same g e fits)) (t ∙ ap (λ (x : Edge). x.to) (edge_new g e fits)) (place g e fits j h);
    }
      where
        ends_only : (j : ℕ) → end (fenced g e) j ≡ length g.nodes → Place g e j → j ≡ e
        ends_only j t (inl p) = let k = sound.ends j p.0 in omega arith
        ends_only j t (inr (inl p)) = p.0
        ends_only j t (inr (inr p)) = let k = sound.ends e fits in omega arith

        starts_only : (j : ℕ) → start (fenced g e) j ≡ length g.nodes → Place g e j → j ≡ length g.edges
        starts_only j f (inl p) = let k = sound.ends j p.0 in omega arith
        starts_only j f (inr (inl p)) = let k = sound.ends e fits in omega arith
        starts_only j f (inr (inr p)) = p.0

        new : (j : ℕ) → start (fenced g e) j ≡ start g e → end (fenced g e) j ≡ end g e → Place g e j → ⊥
        new j f t (inl p) = p.1 (sound.pairs j e p.0 fits (sym p.2.0 ∙ f) (sym p.2.1 ∙ t))
        new j f t (inr (inl p)) = let k = sound.ends e fits in omega arith
        new j f t (inr (inr p)) = let k = sound.ends e fits in omega arith

  -- and taking it off gives the old graph
  pub joined-fenced : joined (fenced g e) (length g.nodes) e (length g.edges) ≡ g
  joined-fenced = λ k. record { nodes = take_at g.nodes (Fence ∷ []) (length g.nodes) refl k; edges = edges k }
    where
      pair : Edge
      pair = record { from = start (fenced g e) e; to = end (fenced g e) (length g.edges); weight = (edge (fenced g e) e).weight }

      same : pair ≡ edge g e
      same = λ k. record { from = (edge_same g e fits k).from; to = (edge_new g e fits k).to; weight = (edge_same g e fits k).weight }

      edges : set (take (length g.edges) (fenced g e).edges) e pair ≡ g.edges
      edges =
          ap (λ (l : List Edge). set l e pair)
          (take_at (set g.edges e (into g e)) (out_of g e ∷ []) (length g.edges) (length-set g.edges e (into g e)))
          ∙ set-set g.edges e (into g e) pair ∙ ap (set g.edges e) same ∙ set-get_or g.edges e no_edge

  pub weight_same : (i : ℕ) → i < length g.edges → (edge (fenced g e) i).weight ≡ (edge g i).weight
  weight_same i h = elim (decide (says_eq i e)) [
    | inl s ↦
        ap (λ (k : ℕ). (edge (fenced g e) k).weight) s ∙ ap (λ (x : Edge). x.weight) (edge_same g e fits) ∙ ap (λ (k : ℕ). (edge g k).weight) (sym s)
    | inr d ↦ ap (λ (x : Edge). x.weight) (edge_other g e fits i h d)
  ]

  pub weights_same : (c : List ℕ) → Within (length g.edges) c → weight (fenced g e) c ≡ weight g c
  weights_same [] w = refl
  weights_same (i ∷ c) w = ap₂ ◌+◌ (weight_same i w.0) (weights_same c w.1)

-- one more at the end
pub stripped_snoc : {g h : Graph} {total : ℕ} → Stripped g total h → (v i m : ℕ) → Loose h v i m → (k : ℕ) → k ≡ total + (edge h i).weight
    → Stripped g k (joined h v i m)
stripped_snoc {g} {h} done v i m l k e = subst (λ (t : ℕ). Stripped h t (joined h v i m)) (omega arith) (take_off v i m l done)
stripped_snoc {g} {h} (take_off {total = total} v' i' m' l' s) v i m l k e =
    subst (λ (t : ℕ). Stripped g t (joined h v i m)) (omega arith) (take_off v' i' m' l' (stripped_snoc s v i m l (total + (edge h i).weight) refl))

-- demand 2: taking the fences off gives the earlier graph
pub stripped_written : (g : Graph) (c : List ℕ) → Sound g → Within (length g.edges) c → Stripped (written g c) (weight g c) g
stripped_written g [] sound w = done
stripped_written g (e ∷ c) sound w =
    let s = stripped_written (fenced g e) c (sound_fenced g e w.0 sound) (later_within g e c w) in
    subst (Stripped (written (fenced g e) c) (weight g (e ∷ c))) (joined-fenced g e w.0)
    (stripped_snoc s (length g.nodes) e (length g.edges) (loose_fenced g e w.0 sound) (weight g (e ∷ c))
    (omega (arith, weights_same g e w.0 c w.1, ap (λ (x : Edge). x.weight) (edge_same g e w.0))))

pub stripped_trans : {g h k : Graph} {s t : ℕ} → Stripped g s h → Stripped h t k → Stripped g (s + t) k
stripped_trans {g} {h} {k} {s} {t} done q = subst⁻¹ (λ (x : ℕ). Stripped g x k) (zero-add t) q
stripped_trans {g} {h} {k} {s} {t} (take_off {total = total} v i m l p) q =
    subst⁻¹ (λ (x : ℕ). Stripped g x k) (add_assoc (edge g i).weight total t) (take_off v i m l (stripped_trans p q))

-- it takes nodes off
pub joined_count : {g : Graph} {v i m : ℕ} → Loose g v i m → length (joined g v i m).nodes ≡ v
joined_count {g} {v} l = length-take-le v g.nodes (omega (arith, l.highest))

pub stripped_fewer : {g h : Graph} {t : ℕ} → Stripped g t h → length h.nodes ≤ length g.nodes
stripped_fewer done = omega arith
stripped_fewer (take_off v i m l p) = omega (arith, stripped_fewer p, joined_count l, l.highest)

-- to a given count of nodes there is at most one outcome
pub stripped_unique : {g h h' : Graph} {t t' : ℕ} → Stripped g t h → Stripped g t' h' → length h.nodes ≡ length h'.nodes → (h ≡ h') × (t ≡ t')
stripped_unique done done e = (refl, refl)
stripped_unique done (take_off v i m l p) e = absurd (let z : ⊥ = omega (arith, stripped_fewer p, joined_count l, l.highest) in z)
stripped_unique (take_off v i m l p) done e = absurd (let z : ⊥ = omega (arith, stripped_fewer p, joined_count l, l.highest) in z)
stripped_unique {h'} (take_off {g = g} {total = t₁} v i m l p) (take_off {total = t₂} v' i' m' l' p') e =
    let ve : v' ≡ v = omega (arith, l.highest, l'.highest) in
    let me : m' ≡ m = omega (arith, l.last, l'.last) in
    let ie : i' ≡ i = l.ends_only i' (omega (arith, l'.last, l'.two)) (l'.ends ∙ ve) in
    let q : Stripped (joined g v i m) t₂ h' = subst₃ (λ (a b c : ℕ). Stripped (joined g a b c) t₂ h') ve ie me p' in
    let r = stripped_unique p q e in
    (r.0, ap₂ ◌+◌ (ap (λ (k : ℕ). (edge g k).weight) (sym ie)) r.1)
