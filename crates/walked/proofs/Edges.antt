-- The edge between two nodes, and the edges of a route by its nodes.
-- Assumes nothing.
use mathlib.Core.List.{List, [], ◌∷◌, ◌++◌}
use mathlib.Core.Path.{◌≡◌, refl, ap, subst⁻¹, ◌∙◌}
use Prim.Native.Nat.{ℕ, zero, suc, ◌+◌, ◌<◌, ◌≤◌}
use native.Mathlib.Numerals.{add-one}
use native.Mathlib.Omega.{arith}
use lib.ListN.{length, get_or, take, drop, length-append, length-drop, get_or-append}
use lib.Seq.{get_or-append_seam, get_or-take, get_or-drop, drop-drop}
use borrow.Author.Count.{below_more}
use Rattle.graph.specs.Ask.{along}
use Rattle.graph.specs.Held.{Follows}
use Rattle.graph.specs.Limits.{most_nodes}
use Rattle.std.specs.Prelude.{Option, Some, None, MatchOption}
use Rattle.route.specs.Way.{Remains}
use Rattle.route.proofs.Linking.{Into}
use Rattle.walk.specs.Asked.{Lists, ByTables, all_ordered, one_unordered}
use Rattle.graph.proofs.Walked.{follows_up}
use Rattle.walked.specs.Steps.{Leading, Stepped, Named}
use Rattle.walked.specs.Unordered.{Goes, Leads, Unordered, FoundUnordered}
use Rattle.walked.proofs.Chains.{Chain, last, more, chain_found}

-- ---- the edge between two nodes

-- among the edges that start at p
pub between_found : (from to left : List ℕ) (p q : ℕ) (r : Option ℕ)
    → MatchOption r ((x : ℕ) → x < length from → get_or from x 0 ≡ p → Remains left x × (get_or to x 0 ≡ q) → ⊥)
    (λ e. (e < length from) × Into from p e × (Remains left e × (get_or to e 0 ≡ q)))
    → MatchOption r (Leads from to (Remains left) p q → ⊥) (λ e. Goes from to (Remains left) e p q)
between_found from to left p q None f = λ (x, (l, o, s, t)). f x l s (o, t)
between_found from to left p q (Some e) (l, s, o) = (l, o.0, s, o.1)

-- where there is an edge one is found
pub between_some : (L : Type 0) (G : ℕ → Type 0) (r : Option ℕ) → MatchOption r (L → ⊥) G → L → ((e : ℕ) → r ≡ Some e → ⊥) → ⊥
between_some L G None f l none = f l
between_some L G (Some e) f l none = none e refl

-- the next two of the nodes
pub two_at : (nodes rest rest' two : List ℕ) (i : ℕ) → rest ≡ drop i nodes → 2 ≤ length rest → two ≡ take 2 rest → rest' ≡ drop 1 rest
    → (get_or two 0 0 ≡ get_or nodes i 0) × (get_or two 1 0 ≡ get_or nodes (i + 1) 0) × (rest' ≡ drop (i + 1) nodes) × (i + 2 ≤ length nodes)
two_at nodes rest rest' two i at long is on = (
  ap (λ (l : List ℕ). get_or l 0 0) is ∙ get_or-take 2 rest 0 0 (omega arith) ∙ ap (λ (l : List ℕ). get_or l 0 0) at ∙ get_or-drop i nodes 0 0 ∙ ap (λ (k : ℕ). get_or nodes k 0) (omega arith),
  ap (λ (l : List ℕ). get_or l 1 0) is ∙ get_or-take 2 rest 1 0 (omega arith) ∙ ap (λ (l : List ℕ). get_or l 1 0) at ∙ get_or-drop i nodes 1 0,
  on ∙ ap (λ (l : List ℕ). drop 1 l) at ∙ drop-drop 1 i nodes,
  omega (arith, long, ap length at, length-drop i nodes),
)

-- one step more, whose edge is e
pub named_more : (from to left nodes edges : List ℕ) (e : ℕ) → Named from to left nodes edges (length edges)
    → Goes from to (Remains left) e (get_or nodes (length edges) 0) (get_or nodes (length edges + 1) 0)
    → Named from to left nodes (edges ++ e ∷ []) (length (edges ++ e ∷ []))
named_more from to left nodes edges e old new =
    subst⁻¹ (Named from to left nodes (edges ++ e ∷ [])) (length-append edges (e ∷ []))
    (below_more (λ k. Goes from to (Remains left) (get_or (edges ++ e ∷ []) k 0) (get_or nodes k 0) (get_or nodes (k + 1) 0)) (length edges)
    (λ k l. rw (get_or-append edges (e ∷ []) 0 k l) (old k l)) (rw (get_or-append_seam edges e [] 0) new))

-- ---- a route step by step

steps_of : (S : ℕ → ℕ → Type 0) (a : ℕ) (between : List ℕ) (b : ℕ) → Follows S a between b → (k : ℕ) → k < suc (length between)
    → S (get_or (along a between b) k 0) (get_or (along a between b) (suc k) 0)
steps_of S a [] b f zero h = f
steps_of S a [] b f (suc k) h = absurd (omega (arith, h))
steps_of S a (x ∷ between) b f zero h = f.0
steps_of S a (x ∷ between) b f (suc k) h = steps_of S x between b f.1 k (omega (arith, h))

chain_of : (R : ℕ → ℕ → ℕ → Type 0) (a : ℕ) (between : List ℕ) (b : ℕ) (es : List ℕ) → length es ≡ suc (length between)
    → ((k : ℕ) → k < suc (length between) → R (get_or es k 0) (get_or (along a between b) k 0) (get_or (along a between b) (suc k) 0)) → Chain R a es between b
chain_of R a [] b [] n f = absurd (omega (arith, n))
chain_of R a [] b (e ∷ []) n f = last (f 0 (omega arith))
chain_of R a [] b (e ∷ d ∷ es) n f = absurd (omega (arith, n))
chain_of R a (x ∷ between) b [] n f = absurd (omega (arith, n))
chain_of R a (x ∷ between) b (e ∷ es) n f = more (f 0 (omega arith)) (chain_of R x between b es (omega (arith, n)) (λ k h. f (suc k) (omega (arith, h))))

-- with another test of the edges
pub unordered_map : (from to fits : List ℕ) (A B : ℕ → Type 0) → ((e : ℕ) → e < length from → A e → B e) → (a : ℕ) (between : List ℕ) (b : ℕ)
    → Unordered from to fits A a between b → Unordered from to fits B a between b
unordered_map from to fits A B f a between b u = record {
  follows = follows_up (λ p q (e, (l, o, s, t)). (e, (l, f e l o, s, t))) a between b u.follows;
  once = u.once;
  unordered = u.unordered;
}

-- ---- what the walk has found

long : (a : ℕ) (between : List ℕ) (b : ℕ) → length (along a between b) ≡ length between + 2
long a between b = omega (arith, length-append between (b ∷ []))

module _ (from to left : List ℕ) {fits succ : List ℕ} (leading : Leading from to left succ) {a b : ℕ} where
  pub none_found : ByTables succ fits a b [] → FoundUnordered from to fits left a b []
  none_found (all_ordered h) = record {
    short = omega arith;
    none = λ _ between u. u.unordered (h between record { follows = follows_up (λ x y. (leading x y).1) a between b u.follows; once = u.once });
    edge = λ k q. absurd (omega (arith, q));
    way = λ q. absurd (omega (arith, q));
  }

  pub stepped : {l : List ℕ} {n : ℕ} → ByTables succ fits a b l → n + 1 ≡ length l → Stepped from to left l n
  stepped (all_ordered h) m k q = absurd (omega (arith, m))
  stepped (one_unordered {between = between} p u) m k h =
      rw (add-one k)
      ((leading (get_or (along a between b) k 0) (get_or (along a between b) (suc k) 0)).0
      (steps_of (Lists succ) a between b p.follows k (omega (arith, h, m, long a between b))))

  pub some_found : {l edges : List ℕ} → ByTables succ fits a b l → length edges + 1 ≡ length l → length l ≤ most_nodes
      → Named from to left l edges (length edges) → FoundUnordered from to fits left a b edges
  some_found (all_ordered h) m few g = absurd (omega (arith, m))
  some_found {edges = edges} (one_unordered {between = between} p u) m few g =
      chain_found from to fits left a b edges between
      (chain_of (Goes from to (Remains left)) a between b edges steps by) p.once u (omega (arith, m, few))
    where
      w : List ℕ
      w = along a between b

      steps : length edges ≡ suc (length between)
      steps = omega (arith, m, long a between b)

      by : (k : ℕ) → k < suc (length between) → Goes from to (Remains left) (get_or edges k 0) (get_or w k 0) (get_or w (suc k) 0)
      by k h = rw (add-one k) at (g k (omega (arith, h, steps)))
