-- The pairs that are kept, each with the edges that led to it.
-- Assumes nothing.
use mathlib.Core.Bool.{false, true≢false}
use mathlib.Core.List.{List, [], ◌∷◌, ◌++◌}
use mathlib.Core.Logic.{◌≢◌}
use mathlib.Core.Path.{◌≡◌, sym, ap, ◌∙◌, subst, subst⁻¹}
use Prim.Native.Nat.{ℕ, ◌+◌, ◌<◌, ◌≤◌}
use native.Mathlib.Omega.{arith}
use lib.ListN.{length, get_or, set, length-set, length-append}
use lib.Seq.{get_or-set_same, get_or-set_other}
use borrow.Author.Count.{below_more}
use Rattle.flags.specs.Flag.{flag, put}
use Rattle.graph.specs.Ask.{along}
use Rattle.graph.specs.Held.{Absent, Each, NoneTwice, Ordered, Within}
use Rattle.graph.specs.Limits.{most_nodes}
use Rattle.graph.proofs.Lists.{each_map}
use Rattle.graph.proofs.Walked.{each_append, none_twice_join}
use Rattle.hope.specs.Hope.{Dominated, most_pairs}
use Rattle.sets.specs.Whole.{Inside}
use Rattle.std.specs.Prelude.{Some, None}
use Rattle.step.specs.Rest.{mark}
use Rattle.step.proofs.Rest.{mark_keeps}
use Rattle.walk.specs.Asked.{Lists}
use Rattle.walked.specs.Unordered.{Goes}
use Rattle.route.specs.Way.{Remains}
use Rattle.walk.proofs.Carried.{Carried, carried_start, carried_on}
use Rattle.unordered.specs.Pairs.{nodes, bys, Trail, start, on}
use Rattle.unordered.specs.declared.pairs.By.{By}
use Rattle.unordered.specs.declared.pairs.Pair.{Pair}
use Rattle.unordered.proofs.Pushed.{pushed_same, pushed_here, pushed_long}
use Rattle.walked.proofs.Chains.{Chain, last, chain_join, chain_long, few_nodes}

-- ---- what is searched, and what is kept

-- a route from a to the goal that does not order its ends, over edges of which something is left
pub record Query : Type 0 where
  pub from : List ℕ
  pub to : List ℕ
  pub left : List ℕ
  pub fits : List ℕ
  pub a : ℕ
  pub goal : ℕ

-- edge e, of which something is left, leads from x to y
abbrev pub Steps : Query → ℕ → ℕ → ℕ → Type 0
Steps s = Goes s.from s.to (Remains s.left)

-- ---- one pair more

-- the first n of the two are the same
abbrev Same : List ℕ → List ℕ → ℕ → Type 0
Same l l' n = (j : ℕ) → j < n → get_or l' j 0 ≡ get_or l j 0

trail_kept : (ps : List Pair) (p : Pair) {j : ℕ} {es : List ℕ} → j < length ps → Trail ps j es → Trail (ps ++ p ∷ []) j es
trail_kept ps p {j} h (start e) = start (pushed_same (λ (q : Pair). q.by) None ps p j h ∙ e)
trail_kept ps p {j} h (on e b t) = on (pushed_same (λ (q : Pair). q.by) None ps p j h ∙ e) b (trail_kept ps p (omega (arith, b, h)) t)

-- ---- the pairs

-- pair j was come to from a over the nodes `seen`, no node twice, by the edges es; each of these nodes is that of a pair with a word within its own
pub record CameTo (s : Query) (ps : List Pair) (words : List ℕ) (j : ℕ) : Type 0 where
  pub seen : List ℕ
  pub es : List ℕ
  pub trail : Trail ps j es
  pub path : List ℕ
  pub visited : ℕ
  pub carried : Carried s.fits s.a path seen visited (get_or words j 0)
  pub onward : (y e : ℕ) → Steps s e (get_or (nodes ps) j 0) y → Chain (Steps s) s.a (es ++ e ∷ []) seen y
  pub once : NoneTwice (s.a ∷ seen)
  pub earlier : Each (λ x. Dominated (nodes ps) words (length ps) x (get_or words j 0)) (s.a ∷ seen)

-- the pairs, with their words
pub record Trails (s : Query) (ps : List Pair) (words : List ℕ) : Type 0 where
  pub few : length ps ≤ most_pairs
  pub long : length words ≡ most_pairs
  pub come : (j : ℕ) → j < length ps → CameTo s ps words j
  pub low : (j : ℕ) → j < length ps → get_or (nodes ps) j 0 < most_nodes
  pub away : (j : ℕ) → j < length ps → get_or (nodes ps) j 0 ≢ s.goal

-- the first pair
pub trails_start : {s : Query} {words : List ℕ} (p : Pair) (words₀ : List ℕ) → p.node ≡ s.a → p.by ≡ None → s.a < most_nodes → s.a ≢ s.goal
    → length words₀ ≡ most_pairs → words ≡ set words₀ 0 (get_or s.fits s.a 0) → Trails s (p ∷ []) words
trails_start {s} {words} p words₀ node first a64 apart wl is-words = record {
  few = omega arith;
  long = ap length is-words ∙ length-set words₀ 0 (get_or s.fits s.a 0) ∙ wl;
  come = λ j h. subst⁻¹ (CameTo s (p ∷ []) words) (zero j h) origin;
  low = λ j h. omega (arith, at j h, a64);
  away = λ j h e. apart (sym (at j h) ∙ e);
}
  where
    word : get_or words 0 0 ≡ get_or s.fits s.a 0
    word = ap (λ (x : List ℕ). get_or x 0 0) is-words ∙ get_or-set_same words₀ 0 (get_or s.fits s.a 0) 0 (omega (arith, wl))

    zero : (j : ℕ) → j < 1 → j ≡ 0
    zero j h = omega (arith, h)

    at : (j : ℕ) → j < 1 → get_or (nodes (p ∷ [])) j 0 ≡ s.a
    at j h = ap (λ (x : ℕ). get_or (nodes (p ∷ [])) x 0) (zero j h) ∙ node

    origin : CameTo s (p ∷ []) words 0
    origin = record {
      seen = [];
      es = [];
      trail = start first;
      path = s.a ∷ [];
      visited = put 0 s.a;
      carried = subst⁻¹ (Carried s.fits s.a (s.a ∷ []) [] (put 0 s.a)) word (carried_start s.fits s.a);
      onward = λ y e g. last (rw node at g);
      once = (tt, tt);
      earlier = ((0, omega arith, node, λ k e. e), tt);
    }

-- one pair more
module _ {s : Query} {ps : List Pair} {words : List ℕ} (y : Trails s ps words) (p : Pair) (w : ℕ) (by : By) (come : p.by ≡ Some by) (now : by.parent < length ps) (free : length ps < most_pairs)
    (low : p.node < most_nodes) (apart : p.node ≢ s.goal) (step : Steps s by.via (get_or (nodes ps) by.parent 0) p.node)
    (is : w ≡ mark s.fits (get_or words by.parent 0) p.node) (new : Dominated (nodes ps) words (length ps) p.node w → ⊥) where
  abbrev more : List Pair
  more = ps ++ p ∷ []

  abbrev words' : List ℕ
  words' = set words (length ps) w

  nodes= : Same (nodes ps) (nodes more) (length ps)
  nodes= = pushed_same (λ (q : Pair). q.node) 0 ps p

  words= : Same words words' (length ps)
  words= j h = get_or-set_other words (length ps) j w 0 (λ z. omega (arith, z, h))

  node : get_or (nodes more) (length ps) 0 ≡ p.node
  node = pushed_here (λ (q : Pair). q.node) 0 ps p

  word : get_or words' (length ps) 0 ≡ w
  word = get_or-set_same words (length ps) w 0 (omega (arith, y.long, free))

  origin : get_or (bys more) (length ps) None ≡ Some by
  origin = pushed_here (λ (q : Pair). q.by) None ps p ∙ come

  grown : Inside (get_or words by.parent 0) w
  grown x e = ap (λ (z : ℕ). flag z x) is ∙ mark_keeps s.fits (get_or words by.parent 0) p.node x e

  -- what is dominated stays so
  still : (v u : ℕ) (l : List ℕ) → Inside v u → Each (λ x. Dominated (nodes ps) words (length ps) x v) l
      → Each (λ x. Dominated (nodes more) words' (length more) x u) l
  still v u l up = each_map _ _ l (λ x (j, h, e, i).
      (j, omega (arith, h, pushed_long ps p), nodes= j h ∙ e, λ k t. up k (i k (ap (λ (z : ℕ). flag z k) (sym (words= j h)) ∙ t))))

  old : (j : ℕ) → j < length ps → CameTo s more words' j
  old j h =
      let o = y.come j h in
      record {
        seen = o.seen;
        es = o.es;
        trail = trail_kept ps p h o.trail;
        path = o.path;
        visited = o.visited;
        carried = subst⁻¹ (Carried s.fits s.a o.path o.seen o.visited) (words= j h) o.carried;
        onward = λ x e g. o.onward x e (subst (λ (z : ℕ). Steps s e z x) (nodes= j h) g);
        once = o.once;
        earlier = still (get_or words j 0) (get_or words' j 0) (s.a ∷ o.seen) (λ z e. ap (λ (q : ℕ). flag q z) (words= j h) ∙ e) o.earlier;
      }

  added : CameTo s more words' (length ps)
  added =
      let o = y.come by.parent now in
      let absent : Absent p.node (s.a ∷ o.seen) =
      each_map (λ x. Dominated (nodes ps) words (length ps) x (get_or words by.parent 0)) (λ x. p.node ≢ x) (s.a ∷ o.seen)
      (λ x q e. new (q.0, q.1, q.2 ∙ sym e, λ z t. grown z (q.3 z t))) o.earlier in
      record {
        seen = o.seen ++ p.node ∷ [];
        es = o.es ++ by.via ∷ [];
        trail = on origin now (trail_kept ps p now o.trail);
        path = p.node ∷ o.path;
        visited = put o.visited p.node;
        carried = subst⁻¹ (Carried s.fits s.a (p.node ∷ o.path) (o.seen ++ p.node ∷ []) (put o.visited p.node)) (word ∙ is)
            (carried_on s.fits s.a p.node o.carried);
        onward = λ x e g. chain_join (Steps s) (o.onward p.node by.via step) (subst (λ (z : ℕ). Steps s e z x) node g);
        once = none_twice_join (s.a ∷ o.seen) (p.node ∷ []) o.once (tt, tt) (absent, tt);
        earlier = each_append (λ x. Dominated (nodes more) words' (length more) x (get_or words' (length ps) 0)) (s.a ∷ o.seen) (p.node ∷ [])
            (still (get_or words by.parent 0) (get_or words' (length ps) 0) (s.a ∷ o.seen) (λ z e. ap (λ (q : ℕ). flag q z) word ∙ grown z e) o.earlier)
            ((length ps, omega (arith, pushed_long ps p), node, λ z e. e), tt);
      }

  -- what holds of each pair up to the new one
  each_more : (P : ℕ → Type 0) → ((j : ℕ) → j < length ps → P j) → P (length ps) → (j : ℕ) → j < length more → P j
  each_more P before here j h = below_more P (length ps) before here j (omega (arith, h, pushed_long ps p))

  pub trails_add : Trails s more words'
  trails_add = record {
    few = omega (arith, free, pushed_long ps p);
    long = length-set words (length ps) w ∙ y.long;
    come = each_more (CameTo s more words') old added;
    low = each_more (λ j. get_or (nodes more) j 0 < most_nodes) (λ j h. omega (arith, nodes= j h, y.low j h)) (omega (arith, node, low));
    away = each_more (λ j. get_or (nodes more) j 0 ≢ s.goal) (λ j h q. y.away j h (sym (nodes= j h) ∙ q)) (λ q. apart (sym node ∙ q));
  }

-- the goal come to from pair i by edge d
pub record Arrived (s : Query) (ps : List Pair) (i d : ℕ) : Type 0 where
  pub seen : List ℕ
  pub es : List ℕ
  pub trail : Trail ps i es
  pub few : length es + 2 ≤ most_nodes
  pub chain : Chain (Steps s) s.a (es ++ d ∷ []) seen s.goal
  pub once : NoneTwice (along s.a seen s.goal)
  pub unordered : Ordered (Lists s.fits) s.a seen s.goal → ⊥

pub arrived : {s : Query} {ps : List Pair} {words : List ℕ} {i d k w : ℕ} → Trails s ps words → s.goal < most_nodes → i < length ps
    → Steps s d (get_or (nodes ps) i 0) k → k ≡ s.goal → w ≡ mark s.fits (get_or words i 0) k → flag w s.goal ≡ false
    → Arrived s ps i d
arrived {s} {ps} {words} {i} {d} {k} y g64 now step at is free = record {
  seen = o.seen;
  es = o.es;
  trail = o.trail;
  few =
      let nodes = few_nodes most_nodes (along s.a o.seen s.goal) once within in
      omega (arith, nodes, length-append (s.a ∷ o.seen) (s.goal ∷ []), chain_long (Steps s) chain, length-append o.es (d ∷ []));
  chain = chain;
  once = once;
  unordered = λ q.
      true≢false (sym (ap (λ (z : ℕ). flag z s.goal) is ∙ mark_keeps s.fits (get_or words i 0) k s.goal (o.carried.lates s.goal q)) ∙ free);
}
  where
    o : CameTo s ps words i
    o = y.come i now

    chain : Chain (Steps s) s.a (o.es ++ d ∷ []) o.seen s.goal
    chain = o.onward s.goal d (subst (Steps s d (get_or (nodes ps) i 0)) at step)

    -- what holds of the nodes of pairs
    each : (P : ℕ → Type 0) → ((j : ℕ) → j < length ps → P (get_or (nodes ps) j 0)) → Each P (s.a ∷ o.seen)
    each P all =
        each_map (λ x. Dominated (nodes ps) words (length ps) x (get_or words i 0)) P (s.a ∷ o.seen) (λ x q. subst P q.2 (all q.0 q.1))
        o.earlier

    once : NoneTwice (along s.a o.seen s.goal)
    once = none_twice_join (s.a ∷ o.seen) (s.goal ∷ []) o.once (tt, tt) (each (λ x. s.goal ≢ x) (λ j h e. y.away j h (sym e)), tt)

    within : Within most_nodes (along s.a o.seen s.goal)
    within = each_append (λ x. x < most_nodes) (s.a ∷ o.seen) (s.goal ∷ []) (each (λ x. x < most_nodes) y.low) (g64, tt)
