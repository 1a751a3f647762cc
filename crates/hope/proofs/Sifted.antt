-- The pairs of a node and a set that ways on from a node come to, one after the other; and that nothing goes on where they are all looked at.
-- Assumes nothing.
use mathlib.Core.Bool.{true, false}
use mathlib.Core.List.{List, [], ◌∷◌, ◌++◌}
use mathlib.Core.Logic.{◌⊎◌, inl, inr, ⊎_elim, ◌≢◌}
use mathlib.Core.Path.{◌≡◌, sym, ap, ◌∙◌}
use Prim.Native.Nat.{ℕ, ◌+◌, ◌<◌, ◌≤◌}
use native.Mathlib.Omega.{arith}
use lib.ListN.{length, get_or, set, length-set, length-append, get_or-append}
use lib.Seq.{get_or-set_same, get_or-set_other, get_or-append_seam}
use Rattle.flags.specs.Flag.{flag, put}
use Rattle.flags.proofs.Digit.{unset}
use Rattle.flags.proofs.Put.{put_cases, put_keeps}
use Rattle.graph.specs.Limits.{most_nodes}
use Rattle.graph.proofs.Splits.{true_false, lt_or_ge}
use Rattle.step.specs.Rest.{Rest, ends, goes, GoesOn, mark}
use Rattle.hope.specs.Hope.{Dominated, most_pairs}
use Rattle.sets.specs.Whole.{Inside}
use Rattle.words.specs.Words.{listed}
use Rattle.step.proofs.Rest.{mark_grown, mark_same, rest_open}

-- where ways on are looked for: from v to the goal, over no node in `visited`, where `after` is ordered after the first
pub record Lookout : Type 0 where
  pub succ : List ℕ
  pub fits : List ℕ
  pub goal : ℕ
  pub visited : ℕ
  pub after : ℕ
  pub v : ℕ

-- a way that goes on to y, w being ordered after the first then: it orders the goal, or a pair is known that it is no better than
abbrev Covered : Lookout → List ℕ → List ℕ → ℕ → ℕ → ℕ → Type 0
Covered o nodes words n y w = (flag w o.goal ≡ true) ⊎ ((y ≢ o.goal) × Dominated nodes words n y w)

-- of the first n pairs, the first of which is v and `after`, the ways on from the first i are covered, and those from pair i over the nodes in `tried`
pub record Sifted (o : Lookout) (nodes words : List ℕ) (n i tried : ℕ) : Type 0 where
  pub room : (length nodes ≡ n) × (length words ≡ most_pairs)
  pub some : 0 < n
  pub few : n ≤ most_pairs
  pub start : (get_or nodes 0 0 ≡ o.v) × (get_or words 0 0 ≡ o.after)
  pub low : (j : ℕ) → j < n → get_or nodes j 0 < most_nodes
  pub covered : (j y : ℕ) → (j < i) ⊎ ((j ≡ i) × (flag tried y ≡ true)) → listed o.succ (get_or nodes j 0) y ≡ true → flag o.visited y ≡ false
      → Covered o nodes words n y (mark o.fits (get_or words j 0) y)

-- the first node looked at
pub sifted_start : {o : Lookout} {nodes words : List ℕ} (words₀ : List ℕ) → length words₀ ≡ most_pairs → nodes ≡ o.v ∷ [] → words ≡ set words₀ 0 o.after
    → o.v < most_nodes → Sifted o nodes words 1 0 o.visited
sifted_start {o} {nodes} words₀ k p q h = record {
  room = (ap length p, ap length q ∙ length-set words₀ 0 o.after ∙ k);
  some = omega arith;
  few = omega arith;
  start = (first, ap (λ (x : List ℕ). get_or x 0 0) q ∙ get_or-set_same words₀ 0 o.after 0 (omega (arith, k)));
  low = λ j b. let e : j ≡ 0 = omega (arith, b) in omega (arith, ap (λ (x : ℕ). get_or nodes x 0) e, first, h);
  covered = λ j y c s e. ⊎_elim (λ b. absurd (omega (arith, b))) (λ b. true_false b.1 e) c;
}
  where
    first : get_or nodes 0 0 ≡ o.v
    first = ap (λ (x : List ℕ). get_or x 0 0) p

-- a node that is put last
last_node : {n : ℕ} (nodes : List ℕ) (k : ℕ) → length nodes ≡ n → get_or (nodes ++ k ∷ []) n 0 ≡ k
last_node nodes k e = rw (← e) (get_or-append_seam nodes k [] 0)

module _ {o : Lookout} {nodes words : List ℕ} {n i tried : ℕ} (y : Sifted o nodes words n i tried) where
  -- the same pairs, with other ways on looked at
  sifted_by : {i' tried' : ℕ} → ((j k : ℕ) → (j < i') ⊎ ((j ≡ i') × (flag tried' k ≡ true)) → listed o.succ (get_or nodes j 0) k ≡ true
      → flag o.visited k ≡ false → Covered o nodes words n k (mark o.fits (get_or words j 0) k)) → Sifted o nodes words n i' tried'
  sifted_by f = record { room = y.room; some = y.some; few = y.few; start = y.start; low = y.low; covered = f }

  -- the last way on from a pair, and so the next pair
  pub sifted_next : ((k : ℕ) → listed o.succ (get_or nodes i 0) k ≡ true → flag tried k ≡ true) → Sifted o nodes words n (i + 1) o.visited
  sifted_next all = sifted_by (λ j k c s e. y.covered j k (⊎_elim (old j k s) (λ b. true_false b.1 e) c) s e)
    where
      old : (j k : ℕ) → listed o.succ (get_or nodes j 0) k ≡ true → j < i + 1 → (j < i) ⊎ ((j ≡ i) × (flag tried k ≡ true))
      old j k s b = ⊎_elim inl (λ l. let p : j ≡ i = omega (arith, b, l) in inr (p, all k (rw p at s))) (lt_or_ge j i)

  -- one way on more, with the pairs that there are
  pub sifted_pass : {k w more : ℕ} → w ≡ mark o.fits (get_or words i 0) k → more ≡ put tried k → Covered o nodes words n k w → Sifted o nodes words n i more
  sifted_pass {k} is one c =
      sifted_by (λ j x d s e. ⊎_elim (λ b. y.covered j x (inl b) s e) (λ b. here j x b.0 s e (put_cases tried k x (rw one at b.1))) d)
    where
      here : (j x : ℕ) → j ≡ i → listed o.succ (get_or nodes j 0) x ≡ true → flag o.visited x ≡ false → (x ≡ k) ⊎ (flag tried x ≡ true)
          → Covered o nodes words n x (mark o.fits (get_or words j 0) x)
      here j x p s e (inl q) = rw (q, p, ← is) c
      here j x p s e (inr q) = y.covered j x (inr (p, q)) s e

  -- one pair more
  sifted_add : (k w : ℕ) → i < n → n < most_pairs → k < most_nodes → Sifted o (nodes ++ k ∷ []) (set words n w) (n + 1) i tried
  sifted_add k w now free k64 = record {
    room = (omega (arith, length-append nodes (k ∷ []), y.room.0), length-set words n w ∙ y.room.1);
    some = omega arith;
    few = omega (arith, free);
    start = (node 0 y.some ∙ y.start.0, word 0 y.some ∙ y.start.1);
    low = low;
    covered = covered;
  }
    where
      node : (j : ℕ) → j < n → get_or (nodes ++ k ∷ []) j 0 ≡ get_or nodes j 0
      node j h = get_or-append nodes (k ∷ []) 0 j (omega (arith, h, y.room.0))

      word : (j : ℕ) → j < n → get_or (set words n w) j 0 ≡ get_or words j 0
      word j h = get_or-set_other words n j w 0 (λ z. omega (arith, z, h))

      low : (j : ℕ) → j < n + 1 → get_or (nodes ++ k ∷ []) j 0 < most_nodes
      low j h =
          ⊎_elim (λ l. omega (arith, node j l, y.low j l))
          (λ l. let p : j ≡ n = omega (arith, h, l) in rw (p, last_node nodes k y.room.0) k64) (lt_or_ge j n)

      kept : (x m : ℕ) → Dominated nodes words n x m → Dominated (nodes ++ k ∷ []) (set words n w) (n + 1) x m
      kept x m (j, h, e, f) = (j, omega (arith, h), node j h ∙ e, λ q t. f q (ap (λ (z : ℕ). flag z q) (sym (word j h)) ∙ t))

      covered : (j x : ℕ) → (j < i) ⊎ ((j ≡ i) × (flag tried x ≡ true)) → listed o.succ (get_or (nodes ++ k ∷ []) j 0) x ≡ true → flag o.visited x ≡ false
          → Covered o (nodes ++ k ∷ []) (set words n w) (n + 1) x (mark o.fits (get_or (set words n w) j 0) x)
      covered j x c s e =
          let h : j < n = ⊎_elim (λ b. omega (arith, b, now)) (λ b. omega (arith, b.0, now)) c in
          rw (word j h) (⊎_elim inl (λ b. inr (b.0, kept x _ b.1)) (y.covered j x c (ap (λ (z : ℕ). listed o.succ z x) (sym (node j h)) ∙ s) e))

-- and the way on that came to it
pub sifted_new : {o : Lookout} {nodes words : List ℕ} {n i tried k w more : ℕ} → Sifted o nodes words n i tried
    → w ≡ mark o.fits (get_or words i 0) k → more ≡ put tried k → k ≢ o.goal → i < n → n < most_pairs → k < most_nodes
    → Sifted o (nodes ++ k ∷ []) (set words n w) (n + 1) i more
sifted_new {o} {nodes} {words} {n} {i} {tried} {k} {w} y is one apart now free k64 =
    let word : get_or (set words n w) n 0 ≡ w = get_or-set_same words n w 0 (omega (arith, y.room.1, free)) in
    sifted_pass (sifted_add y k w now free k64) (is ∙ ap (λ (x : ℕ). mark o.fits x k) (sym (get_or-set_other words n i w 0 (λ z. omega (arith, z, now))))) one
    (inr (apart, (n, omega arith, last_node nodes k y.room.0, λ q t. ap (λ (z : ℕ). flag z q) (sym word) ∙ t)))

-- where every pair has been looked at nothing goes on
module _ {o : Lookout} {nodes words : List ℕ} {n i : ℕ} (y : Sifted o nodes words n i o.visited) (all : n ≤ i) where
  no_way : {vis aft k : ℕ} {l : List ℕ} (j : ℕ) → j < n → Inside o.visited vis → Inside (get_or words j 0) aft → listed o.succ (get_or nodes j 0) k ≡ true
      → Rest o.succ o.fits o.goal vis aft k l → ⊥
  no_way {vis} {aft} {k} j h w u s (ends f g open') = ⊎_elim
      (λ c. true_false (ap (flag aft) g ∙ rw (mark_same o.fits aft k open') at (mark_grown o.fits k (get_or words j 0) aft u o.goal c)) open')
      (λ c. c.0 g)
      (y.covered j k (inl (omega (arith, h, all))) s (unset (λ p. true_false (w k p) f)))
  no_way {vis} {aft} {k} j h w u s (goes {k = next} f g t rest) = ⊎_elim
      (λ c. rest_open o.succ o.fits o.goal rest (mark_grown o.fits k (get_or words j 0) aft u o.goal c))
      (λ (apart, (j', h', at, inside)).
      no_way {k = next} j' h' (λ x p. put_keeps vis k x (w x p)) (λ x p. mark_grown o.fits k (get_or words j 0) aft u x (inside x p))
      (ap (λ (z : ℕ). listed o.succ z next) at ∙ t) rest)
      (y.covered j k (inl (omega (arith, h, all))) s (unset (λ p. true_false (w k p) f)))

  pub sifted_all : (l : List ℕ) → GoesOn o.succ o.fits o.goal o.visited o.after o.v l → ⊥
  sifted_all l (k, s, t) =
      no_way {k = k} 0 y.some (λ x p. p) (λ x p. ap (λ (z : ℕ). flag z x) (sym y.start.1) ∙ p) (ap (λ (z : ℕ). listed o.succ z k) y.start.0 ∙ s) t

-- while the ways on from pair i are looked at: `next` has the nodes that they go on to, and `before` is the set of the pair
pub record Passing (o : Lookout) (nodes words : List ℕ) (n i next before tried : ℕ) : Type 0 where
  pub within : i < n
  pub onto : next ≡ get_or o.succ (get_or nodes i 0) 0
  pub ordered : before ≡ get_or words i 0
  pub sifted : Sifted o nodes words n i tried

module _ {o : Lookout} {nodes words : List ℕ} {n i next before tried : ℕ} (y : Passing o nodes words n i next before tried) where
  pub passing_end : ((k : ℕ) → flag next k ≡ true → flag tried k ≡ true) → Sifted o nodes words n (i + 1) o.visited
  passing_end all = sifted_next y.sifted (λ k s. all k (ap (λ (x : ℕ). flag x k) y.onto ∙ s))

  by_word : (k : ℕ) {w : ℕ} → w ≡ mark o.fits before k → w ≡ mark o.fits (get_or words i 0) k
  by_word k is = is ∙ ap (λ (x : ℕ). mark o.fits x k) y.ordered

  -- the way orders the goal, or the pair is no better than one that is known
  pub passing_on : {k w more : ℕ} → w ≡ mark o.fits before k → more ≡ put tried k → Covered o nodes words n k w → Passing o nodes words n i next before more
  passing_on {k} is one c = record { within = y.within; onto = y.onto; ordered = y.ordered; sifted = sifted_pass y.sifted (by_word k is) one c }

  -- the pair is new
  pub passing_add : {k w more : ℕ} → w ≡ mark o.fits before k → more ≡ put tried k → k ≢ o.goal → n < most_pairs → k < most_nodes
      → Passing o (nodes ++ k ∷ []) (set words n w) (n + 1) i next before more
  passing_add {k} {w} is one apart free k64 =
      let e : get_or (nodes ++ k ∷ []) i 0 ≡ get_or nodes i 0 = get_or-append nodes (k ∷ []) 0 i (omega (arith, y.within, y.sifted.room.0)) in
      let f : get_or (set words n w) i 0 ≡ get_or words i 0 = get_or-set_other words n i w 0 (λ z. omega (arith, z, y.within)) in
      record {
        within = omega (arith, y.within);
        onto = y.onto ∙ ap (λ (x : ℕ). get_or o.succ x 0) (sym e);
        ordered = y.ordered ∙ sym f;
        sifted = sifted_new y.sifted (by_word k is) one apart y.within free k64;
      }
