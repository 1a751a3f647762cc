-- One way on from a pair, edge by edge, and the end of the search.
-- Assumes nothing.
use mathlib.Core.Bool.{true, false}
use mathlib.Core.List.{List, [], ◌∷◌, ◌++◌, map-append}
use mathlib.Core.Logic.{◌⊎◌, ⊎_elim, ◌≢◌}
use mathlib.Core.Path.{◌≡◌, refl, sym, ap, ◌∙◌, subst, subst⁻¹}
use Prim.Native.Nat.{ℕ, ◌+◌, ◌<◌, ◌≤◌}
use native.Mathlib.Omega.{arith}
use lib.ListN.{length, get_or, set, length-append}
use lib.Seq.{get_or-set_other}
use Rattle.flags.specs.Flag.{flag, put}
use Rattle.flags.proofs.Put.{put_same, put_keeps}
use Rattle.graph.specs.Limits.{most_nodes}
use Rattle.hope.specs.Hope.{Dominated, most_pairs}
use Rattle.std.specs.Prelude.{Some}
use Rattle.step.specs.Rest.{mark}
use Rattle.hope.proofs.Sifted.{Lookout, Sifted, sifted_start, sifted_all, sifted_next, sifted_pass, sifted_new}
use Rattle.route.specs.Way.{Net, EdgeLists, Remains}
use Rattle.walked.specs.Unordered.{Unordered, FoundUnordered}
use Rattle.graph.proofs.Walked.{follows_up}
use Rattle.walk.proofs.Sought.{passed}
use Rattle.walked.specs.Steps.{Leading}
use Rattle.walked.proofs.Fills.{fills_exist}
use Rattle.unordered.specs.Pairs.{nodes, Trail}
use Rattle.unordered.specs.declared.pairs.Pair.{Pair}
use Rattle.walked.proofs.Along.{At, at-start, none_before, at_next, none_between, at_up, at_high}
use Rattle.walked.proofs.Chains.{chain_found}
use Rattle.unordered.proofs.Pushed.{pushed_same, pushed_long}
use Rattle.unordered.proofs.Trails.{Query, Steps, Trails, trails_add, Arrived, arrived}

-- ---- the pairs looked at

-- a table has what the edges lead to of which something is left
abbrev pub Leads-by : Query → List ℕ → Type 0
Leads-by s = Leading s.from s.to s.left

-- the ways on are looked for from a
abbrev pub lookout : Query → List ℕ → Lookout
lookout s succ = record { succ = succ; fits = s.fits; goal = s.goal; visited = put 0 s.a; after = get_or s.fits s.a 0; v = s.a }

-- the ways on from the first i pairs are covered
pub record Done (s : Query) (ps : List Pair) (words : List ℕ) (i : ℕ) : Type 0 where
  pub ways : (succ : List ℕ) → Leads-by s succ → Sifted (lookout s succ) (nodes ps) words (length ps) i (put 0 s.a)

-- and those from pair i over the edges before e
pub record Half (s : Query) (ps : List Pair) (words succ : List ℕ) (i e : ℕ) : Type 0 where
  pub tried : ℕ
  pub sifted : Sifted (lookout s succ) (nodes ps) words (length ps) i tried
  pub gone : (x q : ℕ) → x < e → Steps s x (get_or (nodes ps) i 0) q → flag tried q ≡ true

-- while the edges of pair i are looked at, e being the next
pub record Turn (s : Query) (ps : List Pair) (words : List ℕ) (i ordered e : ℕ) : Type 0 where
  pub end : e ≤ length s.from
  pub within : i < length ps
  pub at : At s.from (get_or (nodes ps) i 0) e
  pub same : ordered ≡ get_or words i 0
  pub trails : Trails s ps words
  pub halves : (succ : List ℕ) → Leads-by s succ → Half s ps words succ i e

pub done_start : {s : Query} {words : List ℕ} (p : Pair) (words₀ : List ℕ) → p.node ≡ s.a → s.a < most_nodes
    → length words₀ ≡ most_pairs → words ≡ set words₀ 0 (get_or s.fits s.a 0) → Done s (p ∷ []) words 0
done_start p words₀ node h k f = record { ways = λ succ by. sifted_start words₀ k (ap (λ (x : ℕ). x ∷ []) node) f h }

pub turn_start : {s : Query} {ps : List Pair} {words : List ℕ} {i ordered e : ℕ} (links : List ℕ) → EdgeLists s.from links 0
    → Done s ps words i → Trails s ps words → i < length ps → ordered ≡ get_or words i 0 → e ≡ get_or links (get_or (nodes ps) i 0) 0
    → Turn s ps words i ordered e
turn_start {s} {ps} {words} {i} {ordered} {e} links ln d t h o first = record {
  end = at_high s.from links ln (get_or (nodes ps) i 0) e (t.low i h) first;
  within = h;
  at = at-start s.from links ln (get_or (nodes ps) i 0) e (t.low i h) first;
  same = o;
  trails = t;
  halves = λ succ by. record {
    tried = put 0 s.a;
    sifted = d.ways succ by;
    gone = λ x q l g. absurd (none_before s.from links ln (get_or (nodes ps) i 0) e (t.low i h) first x l g.2);
  };
}

-- all edges of pair i are looked at
pub turn_end : {s : Query} {ps : List Pair} {words : List ℕ} {i ordered e : ℕ} → Turn s ps words i ordered e → length s.from ≤ e → Done s ps words (i + 1)
turn_end {s} {ps} {i = i} t l = record {
  ways = λ succ by.
      let h = t.halves succ by in
      sifted_next h.sifted (λ k m. let g = (by (get_or (nodes ps) i 0) k).0 m in h.gone g.0 k (omega (arith, g.1.0, l)) g.1);
}

-- ---- one edge

-- edge e of pair i is looked at, and e' is the one after it at its node
pub record Looking (s : Query) (links : List ℕ) (ps : List Pair) (words : List ℕ) (i ordered e e' : ℕ) : Type 0 where
  pub turn : Turn s ps words i ordered e
  pub known : e < length s.from
  pub linked : EdgeLists s.from links 0
  pub next : e' ≡ get_or links (most_nodes + e) 0

module _ {s : Query} {links : List ℕ} {ps : List Pair} {words : List ℕ} {i ordered e e' : ℕ} (k : Looking s links ps words i ordered e e') where
  t : Turn s ps words i ordered e
  t = k.turn

  step : {y : ℕ} → y ≡ get_or s.to e 0 → Remains s.left e → Steps s e (get_or (nodes ps) i 0) y
  step q r = (k.known, r, t.at k.known, sym q)

  is_word : (y : ℕ) {w : ℕ} → w ≡ mark s.fits ordered y → w ≡ mark s.fits (get_or words i 0) y
  is_word y q = q ∙ ap (λ (x : ℕ). mark s.fits x y) t.same

  pub turn_arrived : {y w : ℕ} → y ≡ get_or s.to e 0 → w ≡ mark s.fits ordered y → Remains s.left e → s.goal < most_nodes → y ≡ s.goal
      → flag w s.goal ≡ false
      → Arrived s ps i e
  turn_arrived {y} q m r g64 g f = arrived t.trails g64 t.within (step q r) g (is_word y m) f

  between : (x : ℕ) → x < e' → get_or s.from x 0 ≡ get_or (nodes ps) i 0 → (x < e) ⊎ (x ≡ e)
  between = none_between s.from links k.linked (get_or (nodes ps) i 0) e e' t.at k.known k.next

  on : ((succ : List ℕ) → Leads-by s succ → Half s ps words succ i e') → Turn s ps words i ordered e'
  on h = record {
    end = (at_up s.from links k.linked e e' k.known k.next).1;
    within = t.within;
    at = at_next s.from links k.linked (get_or (nodes ps) i 0) e e' t.at k.known k.next;
    same = t.same;
    trails = t.trails;
    halves = h;
  }

  -- nothing is left of edge e
  pub turn_skip : get_or s.left e 0 ≡ 0 → Turn s ps words i ordered e'
  turn_skip z = on (λ succ by.
      let h = t.halves succ by in
      record {
        tried = h.tried;
        sifted = h.sifted;
        gone = λ x q l g. ⊎_elim (λ b. h.gone x q b g) (λ b. absurd (omega (arith, g.1, ap (λ (j : ℕ). get_or s.left j 0) b, z))) (between x l g.2);
      })

  module _ {y w : ℕ} (to-y : y ≡ get_or s.to e 0) (is : w ≡ mark s.fits ordered y) where
    tried_on : {succ : List ℕ} (h : Half s ps words succ i e) (x q : ℕ) → x < e' → Steps s x (get_or (nodes ps) i 0) q → flag (put h.tried y) q ≡ true
    tried_on h x q l g = ⊎_elim
        (λ b. put_keeps h.tried y q (h.gone x q b g))
        (λ b. let same : q ≡ y = sym g.3 ∙ ap (λ (j : ℕ). get_or s.to j 0) b ∙ sym to-y in rw same (put_same h.tried y))
        (between x l g.2)

    -- the way over it orders the goal, or comes to a pair that is no better than one that is known
    pub turn_on : (flag w s.goal ≡ true) ⊎ ((y ≢ s.goal) × Dominated (nodes ps) words (length ps) y w) → Turn s ps words i ordered e'
    turn_on c = on (λ succ by.
        let h = t.halves succ by in
        record { tried = put h.tried y; sifted = sifted_pass h.sifted (is_word y is) refl c; gone = tried_on h })

    -- the pair is new
    pub turn_add : (p : Pair) → p.node ≡ y → p.by ≡ Some (record { via = e; parent = i }) → y ≢ s.goal → length ps < most_pairs → y < most_nodes → Remains s.left e
        → (Dominated (nodes ps) words (length ps) y w → ⊥) → Turn s (ps ++ p ∷ []) (set words (length ps) w) i ordered e'
    turn_add p at come apart free y64 r new = record {
      end = (at_up s.from links k.linked e e' k.known k.next).1;
      within = omega (arith, t.within, pushed_long ps p);
      at = subst⁻¹ (λ (x : ℕ). At s.from x e') node (at_next s.from links k.linked (get_or (nodes ps) i 0) e e' t.at k.known k.next);
      same = t.same ∙ sym (get_or-set_other words (length ps) i w 0 (λ z. omega (arith, z, t.within)));
      trails = trails_add t.trails p w (record { via = e; parent = i }) come t.within free (omega (arith, at, y64)) (λ z. apart (sym at ∙ z))
          (rw at (step to-y r)) (rw at (is_word y is)) (rw at new);
      halves = λ succ by.
          let h = t.halves succ by in
          record {
            tried = put h.tried y;
            sifted = more (sifted_new h.sifted (is_word y is) refl apart t.within free y64);
            gone = λ x q l g. tried_on h x q l (subst (λ (z : ℕ). Steps s x z q) node g);
          };
    }
      where
        node : get_or (nodes (ps ++ p ∷ [])) i 0 ≡ get_or (nodes ps) i 0
        node = pushed_same (λ (q : Pair). q.node) 0 ps p i t.within

        more : {o : Lookout} {tried : ℕ} → Sifted o (nodes ps ++ y ∷ []) (set words (length ps) w) (length ps + 1) i tried
            → Sifted o (nodes (ps ++ p ∷ [])) (set words (length ps) w) (length (ps ++ p ∷ [])) i tried
        more z = rw (pushed_long, map-append (λ (q : Pair). q.node) ps (p ∷ []), at) z

-- ---- the ends of the search

-- what is found of a query
abbrev pub Finds : Query → List ℕ → Type 0
Finds s = FoundUnordered s.from s.to s.fits s.left s.a s.goal

pub nothing : (s : Query) → ((between : List ℕ) → Unordered s.from s.to s.fits (Remains s.left) s.a between s.goal → ⊥) → Finds s []
nothing s h = record { short = omega arith; none = λ _. h; edge = λ k l. absurd (omega (arith, l)); way = λ l. absurd (omega (arith, l)) }

module _ {s : Query} where
  -- all pairs are looked at
  pub done_found : {ps : List Pair} {words : List ℕ} {i : ℕ} → Net s.from s.to → Done s ps words i → length ps ≤ i → Finds s []
  done_found net d all = nothing s none
    where
      ex : (succ : List ℕ) × Leads-by s succ
      ex = fills_exist s.from s.to s.left net

      none : (between : List ℕ) → Unordered s.from s.to s.fits (Remains s.left) s.a between s.goal → ⊥
      none between u = ⊎_elim u.unordered (sifted_all (d.ways ex.0 ex.1) all (between ++ s.goal ∷ []))
          (passed ex.0 s.fits s.a s.goal between
          record { follows = follows_up (λ x y. (ex.1 x y).1) s.a between s.goal u.follows; once = u.once })

  pub arrived_found : {ps : List Pair} {i d : ℕ} {out : List ℕ} → Arrived s ps i d
      → ((es : List ℕ) → Trail ps i es → out ≡ es ++ d ∷ []) → Finds s out
  arrived_found {d = d} v b =
      rw (b v.es v.trail) (chain_found s.from s.to s.fits s.left s.a s.goal (v.es ++ d ∷ []) v.seen v.chain v.once v.unordered
      (omega (arith, length-append v.es (d ∷ []), v.few)))
