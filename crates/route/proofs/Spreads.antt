-- The spread of the search: its start, each edge of a node, the next node, its end.
-- Assumes nothing.
use mathlib.Core.List.{List, [], ◌∷◌, ◌++◌}
use mathlib.Core.Logic.{◌⊎◌, inl, inr, ⊎_elim, ◌≢◌}
use mathlib.Core.Path.{◌≡◌, refl, sym, ap, ◌∙◌, subst⁻¹}
use Prim.Native.Nat.{ℕ, ◌+◌, ◌<◌, ◌≤◌}
use native.Mathlib.Omega.{arith}
use lib.ListN.{length, get_or, set, length-set, length-append, get_or-append, replicate, get_or-replicate}
use lib.Seq.{get_or-append_seam}
use Rattle.std.proofs.lemmas.List.{get_or_past}
use Rattle.graph.specs.Limits.{most_nodes}
use Rattle.graph.specs.Scan.{FirstFrom}
use Rattle.graph.proofs.Splits.{lt_or_ge}
use Rattle.route.specs.declared.Onward.{Onward}
use Rattle.route.specs.declared.Onward.TheVariants.{Unreached, Here, By}
use Rattle.route.specs.declared.AtNode.{AtNode}
use Rattle.route.specs.declared.Links.{Links}
use Rattle.std.specs.Prelude.{Some}
use Rattle.route.specs.Spread.{miss, unseen, onward, Reached, Spread}
use Rattle.route.specs.Way.{Net, EdgeLists, Way, Remains}
use Rattle.route.proofs.Along.{Over, Steps, over_next}
use Rattle.route.proofs.Ways.{Shut, at_same, set_at, unseen-set, way_back}
use Rattle.route.proofs.Linking.{Into, first_into, next_into}

-- a node goes on alike where it is the same
pub on_same : (on : List Onward) {v w : ℕ} → v ≡ w → onward on v ≡ onward on w
on_same on p = ap (λ (v : ℕ). onward on v) p

pub missed : {x y : Onward} → x ≡ y → miss x ≡ miss y
missed p = ap miss p

here_by : {e : ℕ} → Here ≡ By e → ⊥
here_by p = cc

by_same : {d e : ℕ} → By d ≡ By e → d ≡ e
by_same p = cc

-- at the start the goal alone is reached
module _ {goal : ℕ} (g : goal < most_nodes) (on : List Onward) (is : on ≡ set (replicate most_nodes Unreached) goal Here) where
  start_at : (v : ℕ) → ((v ≡ goal) × (onward on v ≡ Here)) ⊎ ((v ≢ goal) × (onward on v ≡ Unreached))
  start_at v =
      ⊎_elim (λ a. inl (a.0, ap (λ (k : List Onward). onward k v) is ∙ a.1))
      (λ a. inr (a.0, ap (λ (k : List Onward). onward k v) is ∙ a.1 ∙ none))
      (set_at Unreached (replicate most_nodes Unreached) goal Here v g)
    where
      none : onward (replicate most_nodes Unreached) v ≡ Unreached
      none =
          ⊎_elim (λ h. get_or-replicate most_nodes v Unreached Unreached h) (λ h. get_or_past (replicate most_nodes Unreached) v Unreached h)
          (lt_or_ge v most_nodes)

  start_aim : Reached on goal
  start_aim = ⊎_elim (λ a. missed a.1) (λ a. absurd (a.0 refl)) (start_at goal)

  pub spread_start : {from to left : List ℕ} → Spread from to left goal on (goal ∷ []) 0 0
  spread_start {from} {to} {left} = record {
    long = ap length is ∙ length-set (replicate most_nodes Unreached) goal Here;
    all = omega (arith, ap unseen is, unseen-set (replicate most_nodes Unreached) goal Here g (missed (get_or-replicate most_nodes goal Unreached Unreached g)) refl);
    led = record {
      known = λ j h. let z : get_or (goal ∷ []) j 0 ≡ goal = at_same (goal ∷ []) (let e : j ≡ 0 = omega arith in e) in
          (omega (arith, z, g), missed (on_same on z) ∙ start_aim);
      queued = λ v r. ⊎_elim (λ a. (0, omega arith, sym a.0)) (λ a. absurd (omega (arith, r, missed a.1))) (start_at v);
      home = λ v h. ⊎_elim (λ a. a.0) (λ a. absurd (omega (arith, missed h, missed a.1))) (start_at v);
      back = λ k e h b. ⊎_elim (λ a. absurd (here_by (sym a.1 ∙ b))) (λ a. absurd (omega (arith, missed b, missed a.1))) (start_at (get_or (goal ∷ []) k 0));
    };
    aim = start_aim;
    done = λ j x h o z w. ⊎_elim (λ a. absurd (omega (arith, a))) (λ a. absurd (omega (arith, a.1))) w;
  }

module _ {from to left : List ℕ} {goal : ℕ} {on : List Onward} {queue : List ℕ} {i e : ℕ} (y : Spread from to left goal on queue i e) where
  -- the same nodes, more edges looked at
  spread_on : (i' e' : ℕ)
      → ((j x : ℕ) → x < length from → Remains left x → get_or to x 0 ≡ get_or queue j 0 → (j < i') ⊎ ((j ≡ i') × (x < e')) → Reached on (get_or from x 0))
      → Spread from to left goal on queue i' e'
  spread_on i' e' f = record { long = y.long; all = y.all; led = y.led; aim = y.aim; done = f }

  -- edges that end elsewhere
  pub spread_skip : (e' : ℕ) → ((x : ℕ) → e ≤ x → x < e' → get_or to x 0 ≡ get_or queue i 0 → ⊥) → Spread from to left goal on queue i e'
  spread_skip e' f = spread_on i e' (λ j x h o z w. y.done j x h o z (⊎_elim inl (λ a. inr (a.0, below j x z a.0 a.1)) w))
    where
      below : (j x : ℕ) → get_or to x 0 ≡ get_or queue j 0 → j ≡ i → x < e' → x < e
      below j x z p l = ⊎_elim (λ s. s) (λ s. absurd (f x s l (z ∙ at_same queue p))) (lt_or_ge x e)

  -- an edge that adds no node
  pub spread_pass : (Remains left e → Reached on (get_or from e 0)) → Spread from to left goal on queue i (e + 1)
  spread_pass f = spread_on i (e + 1) (λ j x h o z w. ⊎_elim (λ a. y.done j x h o z (inl a)) (λ a. here j x h o z a.0 a.1) w)
    where
      here : (j x : ℕ) → x < length from → Remains left x → get_or to x 0 ≡ get_or queue j 0 → j ≡ i → x < e + 1 → Reached on (get_or from x 0)
      here j x h o z q l = ⊎_elim (λ s. y.done j x h o z (inr (q, s))) (λ s. let p : x ≡ e = omega (arith, l, s) in rw p (f (rw p at o))) (lt_or_ge x e)

  -- the last edge of a node
  pub spread_next : length from ≤ e → Spread from to left goal on queue (i + 1) 0
  spread_next l = spread_on (i + 1) 0 (λ j x h o z w. y.done j x h o z (⊎_elim (split j x h) (λ a. absurd (omega (arith, a.1))) w))
    where
      split : (j x : ℕ) → x < length from → j < i + 1 → (j < i) ⊎ ((j ≡ i) × (x < e))
      split j x h a = ⊎_elim inl (λ s. inr (omega (arith, a, s), omega (arith, h))) (lt_or_ge j i)

  -- the last node of the queue
  spread_shut : Net from to → length queue ≤ i → Shut from to left on
  spread_shut net l x h o s =
      let q = y.led.queued (get_or to x 0) s in
      y.done q.0 x h o (sym q.2) (inl (omega (arith, q.1)))

  -- nothing leads on to the nodes that are reached, and a is none of them
  pub spread_none : Net from to → length queue ≤ i → (a : ℕ) → miss (onward on a) ≡ 1 → (es : List ℕ) → Way from to (Remains left) a es goal → ⊥
  spread_none net l a far es w = omega (arith, far, way_back from to left on (spread_shut net l) a es goal w y.aim)

-- while the edges that end at u, node i of the queue, are looked at: e is the next of them
pub record Looking (from to left : List ℕ) (goal i u : ℕ) (on : List Onward) (queue : List ℕ) (e : ℕ) : Type 0 where
  pub upto : e ≤ length from
  pub ends : e < length from → get_or to e 0 ≡ u
  pub spread : Spread from to left goal on queue i e
  pub within : i < length queue
  pub here : get_or queue i 0 ≡ u

-- the edge that the iterator gives is the next of them
pub look_step : {from to left : List ℕ} {goal i u n e : ℕ} {on : List Onward} {queue : List ℕ} {links : Links} (s t : AtNode) → n ≡ length from
    → Over links n s → Steps s (Some e) t → Looking from to left goal i u on queue s.next
    → (Over links n t × (t.next ≡ get_or links.entries (most_nodes + e) 0)) × (e < length from) × Looking from to left goal i u on queue e
look_step {from} {to} {left} {goal} {i} {u} {on = on} {queue} s t m o step l =
    let next = over_next s t o step in
    ((next.0, next.3), omega (arith, next.2, m), subst⁻¹ (Looking from to left goal i u on queue) next.1 l)

module _ {from to links left : List ℕ} {goal : ℕ} (net : Net from to) (linked : EdgeLists to links 0) {i u : ℕ} where
  -- e is the first edge to u that is not looked at yet
  looking : {on : List Onward} {queue : List ℕ} {lo e : ℕ} → FirstFrom (Into to u) lo (length to) e → Spread from to left goal on queue i lo
      → i < length queue → get_or queue i 0 ≡ u → Looking from to left goal i u on queue e
  looking f y h at =
      record {
        upto = omega (arith, f.high, net.both);
        ends = λ l. f.here (omega (arith, l, net.both));
        spread = spread_skip y _ (λ x a b z. f.none x a b (z ∙ at));
        within = h;
        here = at;
      }

  module _ {on : List Onward} {queue : List ℕ} where
    pub look_start : {e : ℕ} → Spread from to left goal on queue i 0 → i < length queue → u ≡ get_or queue i 0 → e ≡ get_or links u 0
        → Looking from to left goal i u on queue e
    look_start {e} y h p q = looking (first_into to links linked u e 0 (omega (arith, p, (y.led.known i h).0)) q) y h (sym p)

    module _ {e : ℕ} (y : Looking from to left goal i u on queue e) (h : e < length from) where
      look_next : {e' : ℕ} → e' ≡ get_or links (most_nodes + e) 0 → FirstFrom (Into to u) (e + 1) (length to) e'
      look_next q = next_into to links linked u e _ (omega (arith, h, net.both)) (y.ends h) q

      pub look_pass : {e' : ℕ} → e' ≡ get_or links (most_nodes + e) 0 → (Remains left e → Reached on (get_or from e 0)) → Looking from to left goal i u on queue e'
      look_pass q f = looking (look_next q) (spread_pass y.spread f) y.within y.here

      -- an edge that adds the node v
      module _ {v : ℕ} (o : Remains left e) (at : v ≡ get_or from e 0) (f : miss (onward on v) ≡ 1) where
        abbrev on' : List Onward
        on' = set on v (By e)

        abbrev queue' : List ℕ
        queue' = queue ++ v ∷ []

        s : Spread from to left goal on queue i e
        s = y.spread

        v64 : v < most_nodes
        v64 = omega (arith, at, net.tail e h)

        vl : v < length on
        vl = omega (arith, v64, s.long)

        fewer : unseen on' + 1 ≡ unseen on
        fewer = unseen-set on v (By e) vl f refl

        pub look_room : length queue < most_nodes
        look_room = omega (arith, s.all, fewer)

        reached : (w : ℕ) → ((w ≡ v) × (onward on' w ≡ By e)) ⊎ ((w ≢ v) × (onward on' w ≡ onward on w))
        reached w = set_at Unreached on v (By e) w vl

        -- a node that was reached goes on as it did
        keep : (w : ℕ) → Reached on w → onward on' w ≡ onward on w
        keep w l = ⊎_elim (λ a. absurd (omega (arith, l, missed (on_same on a.0), f))) (λ a. a.1) (reached w)

        more : (w : ℕ) → Reached on w → Reached on' w
        more w l = missed (keep w l) ∙ l

        -- and keeps its place in the queue
        place : (j : ℕ) → j < length queue → get_or queue' j 0 ≡ get_or queue j 0
        place j l = get_or-append queue (v ∷ []) 0 j l

        last : (j : ℕ) → j ≡ length queue → get_or queue' j 0 ≡ v
        last j p = at_same queue' p ∙ get_or-append_seam queue v [] 0

        long : length queue' ≡ length queue + 1
        long = length-append queue (v ∷ [])

        marked : Spread from to left goal on' queue' i (e + 1)
        marked = record {
          long = length-set on v (By e) ∙ s.long;
          all = omega (arith, s.all, fewer, long);
          aim = more goal s.aim;
          led = record { known = known; queued = queued; home = home; back = back };
          done = done;
        }
          where
            known : (j : ℕ) → j < length queue' → (get_or queue' j 0 < most_nodes) × Reached on' (get_or queue' j 0)
            known j l =
                ⊎_elim (λ a. let b = s.led.known j a in (omega (arith, place j a, b.0), missed (on_same on' (place j a)) ∙ more (get_or queue j 0) b.1))
                (λ a. let z = last j (omega (arith, a, l, long)) in (omega (arith, z, v64), missed (on_same on' z ∙ at_v)))
                (lt_or_ge j (length queue))
              where
                at_v : onward on' v ≡ By e
                at_v = ⊎_elim (λ a. a.1) (λ a. absurd (a.0 refl)) (reached v)

            queued : (w : ℕ) → Reached on' w → (j : ℕ) × (j < length queue') × (get_or queue' j 0 ≡ w)
            queued w r =
                ⊎_elim (λ a. (length queue, omega (arith, long), last (length queue) refl ∙ sym a.0))
                (λ a. let b = s.led.queued w (missed (sym a.1) ∙ r) in (b.0, omega (arith, b.1, long), place b.0 b.1 ∙ b.2))
                (reached w)

            home : (w : ℕ) → onward on' w ≡ Here → w ≡ goal
            home w z = ⊎_elim (λ a. absurd (here_by (sym z ∙ a.1))) (λ a. s.led.home w (sym a.1 ∙ z)) (reached w)

            back : (k d : ℕ) → k < length queue' → onward on' (get_or queue' k 0) ≡ By d
                → (d < length from) × Remains left d × ((j : ℕ) × (j < k) × (get_or queue' j 0 ≡ get_or to d 0))
            back k d l z = ⊎_elim old new (lt_or_ge k (length queue))
              where
                old : k < length queue → (d < length from) × Remains left d × ((j : ℕ) × (j < k) × (get_or queue' j 0 ≡ get_or to d 0))
                old a =
                    let b = s.led.back k d a (sym (keep (get_or queue k 0) (s.led.known k a).1) ∙ on_same on' (sym (place k a)) ∙ z) in
                    (b.0, b.1, (b.2.0, b.2.1, place b.2.0 (omega (arith, b.2.1, a)) ∙ b.2.2))

                new : length queue ≤ k → (d < length from) × Remains left d × ((j : ℕ) × (j < k) × (get_or queue' j 0 ≡ get_or to d 0))
                new a =
                    let same = by_same (sym (⊎_elim (λ x. x.1) (λ x. absurd (x.0 refl)) (reached v)) ∙ on_same on' (sym (last k (omega (arith, a, l, long)))) ∙ z) in
                    rw (← same) (h, o, (i, omega (arith, y.within, a), place i y.within ∙ y.here ∙ sym (y.ends h)))

            done : (j x : ℕ) → x < length from → Remains left x → get_or to x 0 ≡ get_or queue' j 0 → (j < i) ⊎ ((j ≡ i) × (x < e + 1)) → Reached on' (get_or from x 0)
            done j x l ox z w = ⊎_elim (λ a. missed a.1) (λ a. missed a.1 ∙ s.done j x l ox (z ∙ place j before) (old a.0)) (reached (get_or from x 0))
              where
                before : j < length queue
                before = ⊎_elim (λ a. omega (arith, a, y.within)) (λ a. omega (arith, a.0, y.within)) w

                old : get_or from x 0 ≢ v → (j < i) ⊎ ((j ≡ i) × (x < e))
                old n = let apart : (x ≡ e → ⊥) = λ p. n (at_same from p ∙ sym at) in ⊎_elim inl (λ a. inr (a.0, omega (arith, a.1, apart))) w

        pub look_mark : {e' : ℕ} → e' ≡ get_or links (most_nodes + e) 0 → Looking from to left goal i u on' queue' e'
        look_mark q = looking (look_next q) marked (omega (arith, y.within, long)) (place i y.within ∙ y.here)
