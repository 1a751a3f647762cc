-- The test of a proposed route, edge by edge: those tested are a chain that visits no node twice, and the two sets are right for it.
-- Assumes nothing.
use mathlib.Core.Bool.{true, false, true≢false}
use mathlib.Core.List.{List, [], ◌∷◌, ◌++◌}
use mathlib.Core.Logic.{◌⊎◌, inl, inr, ◌≢◌}
use mathlib.Core.Path.{◌≡◌, refl, sym, ap, subst, ◌∙◌}
use Prim.Native.Nat.{ℕ, ◌+◌, ◌<◌, ◌≤◌}
use native.Mathlib.Omega.{arith}
use lib.ListN.{length, get_or, take}
use lib.Seq.{take_all}
use Rattle.std.proofs.lemmas.List.{take_more}
use Rattle.flags.specs.Flag.{flag, put}
use Rattle.graph.specs.Held.{Absent, NoneTwice, Ordered}
use Rattle.graph.specs.Limits.{most_nodes}
use Rattle.graph.proofs.Walked.{each_append, none_twice_join}
use Rattle.step.specs.Rest.{mark}
use Rattle.step.proofs.Rest.{mark_keeps}
use Rattle.route.specs.Way.{Remains}
use Rattle.walk.proofs.Carried.{Carried, carried_start, carried_on}
use Rattle.walk.specs.Asked.{Lists}
use Rattle.walked.specs.Unordered.{Goes, FoundUnordered}
use Rattle.walked.proofs.Chains.{Chain, last, chain_join, chain_found}

module _ (from to fits route : List ℕ) (a : ℕ) where
  -- something is left of each of the first i edges
  abbrev pub Usable : List ℕ → ℕ → Type 0
  Usable left i = (k : ℕ) → k < i → Remains left (get_or route k 0)

  -- the edges es lead from a to `at` over the nodes between, if something is left of the first i; where that orders the two, `at` is in `after`
  pub record Led (es passed : List ℕ) (i at after : ℕ) : Type 0 where
    pub between : List ℕ
    pub ends : passed ≡ between ++ at ∷ []
    pub chain : (left : List ℕ) → Usable left i → Chain (Goes from to (Remains left)) a es between at
    pub late : Ordered (Lists fits) a between at → flag after at ≡ true

  -- no edge yet; or the edges have led to `at`
  abbrev pub Come : List ℕ → List ℕ → ℕ → ℕ → ℕ → Type 0
  Come es passed i at after = ((es ≡ []) × (passed ≡ []) × (at ≡ a)) ⊎ Led es passed i at after

  -- the first i edges lead over the nodes `passed` and have come to `at`; `path` has these nodes and a, in any order
  pub record Tested (seen after at i : ℕ) : Type 0 where
    pub path : List ℕ
    pub passed : List ℕ
    pub carried : Carried fits a path passed seen after
    pub same : (k : ℕ) → Absent k path → Absent k (a ∷ passed)
    pub once : NoneTwice (a ∷ passed)
    pub come : Come (take i route) passed i at after

  pub tested_start : Tested (put 0 a) (get_or fits a 0) a 0
  tested_start = record {
    path = a ∷ [];
    passed = [];
    carried = carried_start fits a;
    same = λ k n. n;
    once = (tt, tt);
    come = inl (refl, refl, refl);
  }

  -- one edge more, to a node that has not been seen
  pub tested_on : {seen after at i v : ℕ} → Tested seen after at i → i < length route → get_or route i 0 < length from
      → get_or from (get_or route i 0) 0 ≡ at → get_or to (get_or route i 0) 0 ≡ v → flag seen v ≡ false → Tested (put seen v) (mark fits after v) v (i + 1)
  tested_on {seen} {after} {at} {i} {v} g h f p q new = record {
    path = v ∷ g.path;
    passed = g.passed ++ v ∷ [];
    carried = carried_on fits a v g.carried;
    same = λ k n. each_append (λ y. k ≢ y) (a ∷ g.passed) (v ∷ []) (g.same k n.1) (n.0, tt);
    once = none_twice_join (a ∷ g.passed) (v ∷ []) g.once (tt, tt) (g.same v (g.carried.new v new), tt);
    come = rw (take_more route i 0 h) (inr
        (record { between = g.passed; ends = refl; chain = λ left u. more left u g.come; late = λ o. mark_keeps fits after v v (g.carried.lates v o) }));
  }
    where
      more : (left : List ℕ) → Usable left (i + 1) → Come (take i route) g.passed i at after
          → Chain (Goes from to (Remains left)) a (take i route ++ get_or route i 0 ∷ []) g.passed v
      more left u (inl (z, n, s)) = rw (z, n) (last (f, u i (omega arith), p ∙ s, q))
      more left u (inr d) = rw d.ends (chain_join _ (d.chain left (λ k h. u k (omega (arith, h)))) (f, u i (omega arith), p, q))

  -- all edges have been tested, they lead to the goal, and nothing orders it
  pub tested_end : {seen after goal : ℕ} → Tested seen after goal (length route) → 0 < length route → length route ≤ most_nodes → flag after goal ≡ false
      → (left : List ℕ) → Usable left (length route) → FoundUnordered from to fits left a goal route
  tested_end {seen} {after} {goal} g pos few out left u = go (rw (take_all (length route) route (omega arith)) at g.come)
    where
      go : Come route g.passed (length route) goal after → FoundUnordered from to fits left a goal route
      go (inl (z, _, _)) = absurd (omega (arith, pos, ap length z))
      go (inr d) = chain_found from to fits left a goal route d.between (d.chain left u) (subst (λ (l : List ℕ). NoneTwice (a ∷ l)) d.ends g.once)
          (λ o. true≢false (sym (d.late o) ∙ out)) few
