-- Going along the edges at a node.
-- Assumes nothing.
use mathlib.Core.Bool.{Bool, true, false}
use mathlib.Core.List.{List, [], ◌∷◌}
use mathlib.Core.Logic.{⊎_elim}
use mathlib.Core.Path.{◌≡◌, refl, sym, ap, subst, ◌∙◌}
use Prim.Native.Nat.{ℕ, ◌+◌, ◌<◌, ◌≤◌}
use native.Mathlib.Omega.{arith}
use lib.ListN.{length, get_or}
use Rattle.std.specs.Prelude.{Option, Some, None, MatchOption, ⊤}
use Rattle.std.specs.Fn.{Called, CalledAt, Mut}
use Rattle.std.specs.Iterator.{Yields, YieldsThen, CallableAtEachTurn}
use Rattle.std.proofs.lemmas.Bool.{false≢true}
use denote.Ref.{Bor}
use Rattle.std.specs.List.{FoldsTo}
use Rattle.graph.specs.Limits.{most_nodes}
use Rattle.graph.specs.Scan.{FirstFrom}
use Rattle.graph.proofs.Scan.{Passed, passed_none, passed_more}
use Rattle.graph.proofs.Splits.{lt_or_ge}
use Rattle.route.specs.declared.AtNode.{AtNode}
use Rattle.route.specs.declared.Links.{Links}
use Rattle.route.specs.Way.{EdgeLists}
use Rattle.route.proofs.Linking.{Into, first_into, next_into}

-- what a call of `next` gives
abbrev pub Steps : AtNode → Option ℕ → AtNode → Type 0
Steps s r t =
    (t.links ≡ s.links) × (t.count ≡ s.count)
    × MatchOption r ((s.count ≤ s.next) × (t.next ≡ s.next)) (λ e. (e ≡ s.next) × (e < s.count) × (t.next ≡ get_or s.links.now.entries (most_nodes + e) 0))

-- s goes over edges at a node, by these links and below n
abbrev pub Over : Links → ℕ → AtNode → Type 0
Over links n s = (s.links.now ≡ links) × (s.count ≡ n)

pub over_next : {links : Links} {n e : ℕ} (s t : AtNode) → Over links n s → Steps s (Some e) t
    → Over links n t × (e ≡ s.next) × (e < n) × (t.next ≡ get_or links.entries (most_nodes + e) 0)
over_next {e = e} s t o (a, b, c) = (
  (ap (λ (l : Bor Links). l.now) a ∙ o.0, b ∙ o.1),
  c.0,
  omega (arith, c.1, o.1),
  c.2 ∙ ap (λ (l : Links). get_or l.entries (most_nodes + e) 0) o.0,
)

-- a closure that may be called at each number below n, and is as before after a call, may be called at each edge
module _ {F : Type 0} (links : Links) (n : ℕ) (R : F → ℕ → F → Type 0) (Q : F → ℕ → Type 0) (f : F) (keeps : (x : ℕ) (q : F) → R f x q → q ≡ f) where
  over_run : (s t : AtNode) (xs : List ℕ) (p q : F) → p ≡ f → Yields Steps s xs t → FoldsTo R p xs q → Over links n s → (q ≡ f) × Over links n t
  over_run s t [] p q e y r o = (sym r ∙ e, subst (Over links n) y o)
  over_run s t (x ∷ xs) p q e (m, step, y) (k, r, rs) o = over_run m t xs k q (keeps x k (subst (λ (z : F). R z x k) e r)) y rs (over_next s m o step).0

  pub callable_over : (s : AtNode) → ((x : ℕ) → x < n → Q f x) → Over links n s → CallableAtEachTurn Steps R Q s f
  callable_over s ok o = record {
    at = λ xs t q x u y r step.
        let run = over_run s t xs f q refl y r o in
        subst (λ (z : F). Q z x) (sym run.0) (ok x (over_next t u run.1 step).2);
  }

module _ (to : List ℕ) (P : ℕ → Type 0) (u : ℕ) where
  -- e is the next edge at u, and those before have not P
  pub record Passing (e : ℕ) : Type 0 where
    pub upto : e ≤ length to
    pub ends : e < length to → get_or to e 0 ≡ u
    pub gone : Passed (λ x. Into to u x × P x) 0 e

  passing_on : (lo e : ℕ) → FirstFrom (Into to u) lo (length to) e → Passed (λ x. Into to u x × P x) 0 lo → Passing e
  passing_on lo e f g = record {
    upto = f.high;
    ends = f.here;
    gone = λ x a b p. ⊎_elim (λ l. g x a l p) (λ l. f.none x l b p.0) (lt_or_ge x lo);
  }

  pub passing_end : (e : ℕ) → Passing e → length to ≤ e → (x : ℕ) → x < length to → get_or to x 0 ≡ u → P x → ⊥
  passing_end e y l x h p o = y.gone x (omega arith) (omega (arith, h, l)) (p, o)

  module _ (links : Links) (linked : EdgeLists to links.entries 0) where
    pub passing_start : (e : ℕ) → u < most_nodes → e ≡ get_or links.entries u 0 → Passing e
    passing_start e h q = passing_on 0 e (first_into to links.entries linked u e 0 h q) (passed_none (λ x. Into to u x × P x) 0)

    pub passing_next : (e e' : ℕ) → Passing e → e < length to → (P e → ⊥) → e' ≡ get_or links.entries (most_nodes + e) 0 → Passing e'
    passing_next e e' y h n q =
        passing_on (e + 1) e' (next_into to links.entries linked u e e' h (y.ends h) q) (passed_more (λ x. Into to u x × P x) 0 e y.gone (λ p. n p.1))

    -- at a state of the iterator over the edges at u
    abbrev pub Gone : AtNode → Type 0
    Gone s = Over links (length to) s × Passing s.next

    module _ {F : Type 0} (R : F → ℕ → F → Type 0) (f : F) (told : (x : ℕ) (q : F) → R f x q → (q ≡ f) × (P x → ⊥)) where
      passing_run : (s t : AtNode) (xs : List ℕ) (p j : F) → p ≡ f → Yields Steps s xs t → FoldsTo R p xs j → Gone s → (j ≡ f) × Gone t
      passing_run s t [] p j q y r g = (sym r ∙ q, subst Gone y g)
      passing_run s t (x ∷ xs) p j q (m, step, y) (k, r, rs) g =
          let told' = told x k (subst (λ (z : F). R z x k) q r) in
          let on = over_next s m g.0 step in
          passing_run m t xs k j told'.0 y rs (on.0, passing_next x m.next (subst Passing (sym on.1) g.1) on.2 told'.1 on.3)

    -- no edge at u has P where `any` found none
    pub none_from_any : {F : Type 0} {g : Mut F (ℕ × Unit {0}) Bool} {s : AtNode} (t : AtNode) (f : F) (r : Bool)
        → (xs : List ℕ) × (o : Option ℕ) × (j : F) × YieldsThen Steps s xs o t × FoldsTo (λ p x q. Called g p (x, tt) false q) f xs j
        × MatchOption o (r ≡ false) (λ x. (r ≡ true) × ((h : F) × Called g j (x, tt) true h))
        → ((x : ℕ) (q : F) → Called g f (x, tt) false q → (q ≡ f) × (P x → ⊥)) → Gone s → r ≡ false → (x : ℕ) → x < length to → get_or to x 0 ≡ u → P x → ⊥
    none_from_any {g = h} {s = s} t f r (xs, None, j, (m, y, z), fs, e) told gone not =
        let run = passing_run (λ p x q. Called h p (x, tt) false q) f told s m xs f j refl y fs gone in
        passing_end m.next run.1.1 (omega (arith, z.2, run.1.0.1))
    none_from_any t f r (xs, Some x, j, ys, fs, e) told gone not = absurd (false≢true (sym not ∙ e.0))

    -- what `find` found has P, and where it found none there is none
    pub first_from_find : {F : Type 0} {g : Mut F (Bor ℕ × Unit {0}) Bool} {s : AtNode} (t : AtNode) (f : F) (r : Option ℕ)
        → (xs : List ℕ) × (j : F) × YieldsThen Steps s xs r t × FoldsTo (λ p x q. CalledAt g p x false q) f xs j × MatchOption r ⊤ (λ x. (h : F) × CalledAt g j x true h)
        → ((x : ℕ) (q : F) → CalledAt g f x true q → P x) → ((x : ℕ) (q : F) → CalledAt g f x false q → (q ≡ f) × (P x → ⊥)) → Gone s
        → MatchOption r ((x : ℕ) → x < length to → get_or to x 0 ≡ u → P x → ⊥) (λ e. (e < length to) × Into to u e × P e)
    first_from_find {g = h} {s = s} t f None (xs, j, (m, y, z), fs, e) yes' no' gone =
        let run = passing_run (λ p x q. CalledAt h p x false q) f no' s m xs f j refl y fs gone in
        passing_end m.next run.1.1 (omega (arith, z.2, run.1.0.1))
    first_from_find {g = h} {s = s} t f (Some x) (xs, j, (m, y, z), fs, e) yes' no' gone =
        let run = passing_run (λ p x q. CalledAt h p x false q) f no' s m xs f j refl y fs gone in
        let on = over_next m t run.1.0 z in
        (on.2, (subst Passing (sym on.1) run.1.1).ends on.2, yes' x e.0 (subst (λ (p : _). CalledAt h p x true e.0) run.0 e.1))
