-- Soundness: what the search finds goes on to the goal, over no node twice, and leaves the ends unordered.
-- Assumes nothing.
use mathlib.Core.List.{List, [], ◌∷◌, ◌++◌, append_assoc, append-nil}
use mathlib.Core.Path.{◌≡◌, sym, ap, subst, ◌∙◌}
use Prim.Native.Nat.{ℕ}
use Rattle.flags.specs.Flag.{flag}
use Rattle.graph.specs.Held.{Absent, Follows, NoneTwice, Ordered}
use Rattle.graph.proofs.Splits.{true_false}
use Rattle.graph.proofs.Walked.{Apart, apart_uncons}
use Rattle.step.specs.Rest.{Rest, ends, goes}
use Rattle.walk.specs.Asked.{Lists}
use Rattle.walk.proofs.Carried.{Carried, carried_on}

module _ (succ fits : List ℕ) (a goal : ℕ) where
  -- l goes on from p, where the route has gone from a over `seen`
  pub record Onward (path seen : List ℕ) (p : ℕ) (l : List ℕ) : Type 0 where
    pub rest : List ℕ
    pub whole : l ≡ rest ++ goal ∷ []
    pub follows : Follows (Lists succ) p rest goal
    pub once : NoneTwice (rest ++ goal ∷ [])
    pub apart : Apart path (rest ++ goal ∷ [])
    pub unordered : Ordered (Lists fits) a (seen ++ rest) goal → ⊥

  pub found_onward : {path seen : List ℕ} {visited after p k : ℕ} {l : List ℕ} → Lists succ p k → Rest succ fits goal visited after k l
      → Carried fits a path seen visited after → Onward path seen p l
  found_onward {path} {seen} {visited} {after} {p} {k} h (ends f g e) s = record {
    rest = [];
    whole = ap (λ (x : ℕ). x ∷ []) g;
    follows = subst (Lists succ p) g h;
    once = (tt, tt);
    apart = (subst (λ (x : ℕ). Absent x path) g (s.new k f), tt);
    unordered = λ o. true_false (s.lates goal (rw append-nil at o)) (ap (flag after) (sym g) ∙ e);
  }
  found_onward {path} {seen} {visited} {after} {p} {k} h (goes f g h' t) s = more (found_onward {path = k ∷ path} {seen = seen ++ k ∷ []} h' t (carried_on fits a k s))
    where
      more : {m : List ℕ} → Onward (k ∷ path) (seen ++ k ∷ []) k m → Onward path seen p (k ∷ m)
      more w =
          let q = apart_uncons k path (w.rest ++ goal ∷ []) w.apart in
          record {
            rest = k ∷ w.rest;
            whole = ap (λ (t : List ℕ). k ∷ t) w.whole;
            follows = (h, w.follows);
            once = (q.0, w.once);
            apart = (s.new k f, q.1);
            unordered = λ o. w.unordered (rw (append_assoc seen (k ∷ []) w.rest) o);
          }
