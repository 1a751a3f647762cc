-- What visiting a node says of its answer: one law for each way out of `visit`.
-- Assumes nothing.
use mathlib.Core.Bool.{Bool, true, false, true≢false}
use mathlib.Core.List.{List, [], ◌∷◌, ◌++◌, append_assoc}
use mathlib.Core.Logic.{inr}
use mathlib.Core.Path.{◌≡◌, refl, sym, ap, ◌∙◌}
use Prim.Native.Nat.{ℕ, ◌+◌, ◌<◌, ◌≤◌}
use native.Mathlib.Numerals.{add-one}
use native.Mathlib.Omega.{arith}
use lib.Count.{ones}
use lib.ListN.{length, take, set, length-set}
use lib.Seq.{take-suc-set, take-take, take-set-le}
use Rattle.flags.specs.Flag.{flag, put, less}
use Rattle.flags.proofs.Same.{put_out}
use Rattle.graph.specs.Cut.{First}
use Rattle.graph.specs.Limits.{most_nodes}
use Rattle.step.specs.Rest.{Rest, ends, goes, GoesOn, mark}
use Rattle.walk.specs.Search.{Decides, Earliest, GivenBack}
use Rattle.walk.proofs.Lent.{back_as, no_way}

-- the route has one node more, v, in place n: `visited` is `more` now
pub record Entered (visited v : ℕ) (nodes : List ℕ) (more n : ℕ) : Type 0 where
  pub new : flag visited v ≡ false
  pub on : more ≡ put visited v
  pub count : ones more ≡ ones visited + 1
  pub free : ones visited < most_nodes
  pub last : n ≡ ones visited
  pub long : length nodes ≡ most_nodes

module _ {visited v more n : ℕ} {nodes : List ℕ} (e : Entered visited v nodes more n) where
  -- what stands in the nodes then
  route_more : take (ones more) (set nodes n v) ≡ take (ones visited) nodes ++ v ∷ []
  route_more = rw (e.count, e.last, add-one) (take-suc-set nodes (ones visited) v (omega (arith, e.free, e.long)))

  route_same : take (ones visited) (set nodes n v) ≡ take (ones visited) nodes
  route_same = take-set-le (ones visited) nodes n v (omega (arith, e.last))

  -- taken out again, it is as it was
  out : {s t : ℕ} → s ≡ more → t ≡ less s (put 0 v) → t ≡ visited
  out same less_one = less_one ∙ ap (λ (x : ℕ). less x (put 0 v)) (same ∙ e.on) ∙ put_out visited v e.new

module _ {succ fits : List ℕ} {goal visited after v more n : ℕ} {nodes : List ℕ} (e : Entered visited v nodes more n) where
  -- ---- the goal

  pub open_end : v ≡ goal → flag after v ≡ false → Decides (Rest succ fits goal) v true visited more after after nodes (set nodes n v)
  open_end p f = record {
    none = λ z. absurd (true≢false z);
    found = λ z. (v ∷ [], omega (arith, e.count, e.free), route_more e, record { one = ends e.new p f; least = only });
    back = record { on_route = λ z. absurd (true≢false z); marked = λ z. refl; route = route_same e; long = length-set nodes n v };
  }
    where
      only : (s : List ℕ) → Rest succ fits goal visited after v s → First (v ∷ []) s
      only s (ends f g h) = inr (refl, tt)
      only s (goes f g h k) = absurd (g p)

  pub ordered_end : {s : ℕ} → v ≡ goal → flag after v ≡ true → s ≡ less more (put 0 v)
      → Decides (Rest succ fits goal) v false visited s after after nodes (set nodes n v)
  ordered_end p f gone = no_way none (record { on_route = λ z. out e refl gone; marked = λ z. refl; route = route_same e; long = length-set nodes n v })
    where
      none : (l : List ℕ) → Rest succ fits goal visited after v l → ⊥
      none l (ends a g h) = true≢false (sym f ∙ h)
      none l (goes a g h k) = g p

  -- ---- another node: what goes on from it goes on from the route with it on

  module _ {way : Bool} {marks more' after' : ℕ} {nodes' : List ℕ} (apart : v ≡ goal → ⊥) (is : marks ≡ mark fits after v)
      (tried : Decides (GoesOn succ fits goal) v way more more' marks after' (set nodes n v) nodes') where
    -- what is lent, but for the sets
    given : {s a : ℕ} → (way ≡ false → s ≡ visited) → (way ≡ false → a ≡ after) → GivenBack way visited s after a nodes nodes'
    given same marked = record {
      on_route = same;
      marked = marked;
      route = sym (take-take (ones visited) (ones more) nodes' within) ∙ ap (take (ones visited)) tried.back.route
          ∙ take-take (ones visited) (ones more) (set nodes n v) within ∙ route_same e;
      long = tried.back.long ∙ length-set nodes n v;
    }
      where
        within : ones visited ≤ ones more
        within = omega (arith, e.count)

    pub gone_on : way ≡ true → Decides (Rest succ fits goal) v true visited more' after after' nodes nodes'
    gone_on z = record {
      none = λ y. absurd (true≢false y);
      found = λ y.
          let r = (rw (e.on, is) at tried).found z in (
            v ∷ r.0,
            r.1,
            r.2 ∙ ap (λ (p : List ℕ). p ++ r.0) (rw e.on at (route_more e)) ∙ append_assoc (take (ones visited) nodes) (v ∷ []) r.0,
            record { one = goes e.new apart r.3.one.1 r.3.one.2; least = least r.0 r.3 },
          );
      back = back_as z (given (λ y. absurd (true≢false (sym z ∙ y))) (λ y. absurd (true≢false (sym z ∙ y))));
    }
      where
        least : (l : List ℕ) → Earliest (GoesOn succ fits goal (put visited v) (mark fits after v) v) l → (s : List ℕ)
            → Rest succ fits goal visited after v s → First (v ∷ l) s
        least l first s (ends f g h) = absurd (apart g)
        least l first s (goes {k = k} {l = l'} f g h t) = inr (refl, first.least l' (k, h, t))

    pub taken_back : {s : ℕ} → way ≡ false → s ≡ less more' (put 0 v) → Decides (Rest succ fits goal) v false visited s after after nodes nodes'
    taken_back z gone = no_way none (back_as z (given (λ y. out e (tried.back.on_route y) gone) (λ y. refl)))
      where
        none : (l : List ℕ) → Rest succ fits goal visited after v l → ⊥
        none l (ends f g h) = apart g
        none l (goes {k = k} {l = l'} f g h t) = (rw (e.on, is) at tried).none z l' (k, h, t)
