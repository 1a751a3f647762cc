-- First: the search at the first node tells whether an order is held, and where it is not its first list is the route to show.
-- Assumes nothing.
use mathlib.Core.Bool.{Bool, true}
use mathlib.Core.List.{List, [], ◌∷◌, ◌++◌}
use mathlib.Core.Logic.{inr, ⊎_elim}
use mathlib.Core.Path.{◌≡◌, refl, ap, subst, subst⁻¹, ◌∙◌}
use Prim.Native.Nat.{ℕ, ◌<◌, ◌≤◌}
use native.Mathlib.Omega.{arith}
use lib.Count.{ones}
use lib.ListN.{length, get_or, take, length-take}
use Rattle.flags.specs.Flag.{put}
use Rattle.flags.proofs.Put.{put_zero_count}
use Rattle.graph.specs.declared.Rule.{Rule}
use Rattle.graph.specs.Ask.{along, AskedWithout, is_held, is_open}
use Rattle.graph.specs.Cut.{First}
use Rattle.graph.specs.Graph.{Graph, Sound}
use Rattle.graph.specs.Limits.{most_nodes}
use Rattle.graph.specs.Held.{Follows, Ordered, by_rule, by_way, Orders, Route, Step, Within}
use Rattle.graph.proofs.Walked.{each_split, follows_up}
use Rattle.step.specs.Rest.{GoesOn}
use Rattle.walk.specs.Asked.{AskedOf, ByTables, Lists, Passes}
use Rattle.walk.specs.Search.{Decides, Earliest}
use Rattle.words.specs.Words.{Ruling, WordsOf}
use Rattle.walk.proofs.Sought.{Sought, Begun, passed, begun, begun_passes, none_left, none_sought, one_sought}

-- ---- from the tables to the graph

module _ {F F' : ℕ → ℕ → Type 0} (n : ℕ) (up : (p q : ℕ) → p < n → q < n → F p q → F' p q) where
  ordered_up : {a : ℕ} {between : List ℕ} {b : ℕ} → a < n → Within n between → b < n → Ordered F a between b → Ordered F' a between b
  ordered_up {a} {between} {b} p w q (by_rule f) = by_rule (up a b p q f)
  ordered_up {a} {between} {b} p w q (by_way k before after e o₁ o₂) =
      let r = each_split (λ y. y < n) before (k ∷ after) (subst (Within n) e w) in
      by_way k before after e (ordered_up p r.0 r.1.0 o₁) (ordered_up r.1.0 r.1.1 q o₂)

module _ (g : Graph) (rules : List Rule) (fits : List ℕ) (sound : Sound g) (ruling : Ruling g rules fits) (c : List ℕ) where
  abbrev n : ℕ
  n = length g.nodes

  -- the nodes of a route are nodes of the graph
  inside : (x : ℕ) (between : List ℕ) (b : ℕ) → Follows (Step g c) x between b → (x < n) × Within n between × (b < n)
  inside x [] b (i, h, o, f, t) = let e = sound.ends i h in (rw (← f) e.0, tt, rw (← t) e.1)
  inside x (y ∷ between) b ((i, h, o, f, t), s) = let r = inside y between b s in (rw (← f) (sound.ends i h).0, (r.0, r.1), r.2)

  pub to_graph : (a : ℕ) (between : List ℕ) (b : ℕ) → Follows (Step g c) a between b → Ordered (Lists fits) a between b → Orders g rules a between b
  to_graph a between b f o = let r = inside a between b f in ordered_up n (λ p q h k. (ruling p q h k).0) r.0 r.1 r.2 o

  pub to_words : (a : ℕ) (between : List ℕ) (b : ℕ) → Follows (Step g c) a between b → Orders g rules a between b → Ordered (Lists fits) a between b
  to_words a between b f o = let r = inside a between b f in ordered_up n (λ p q h k. (ruling p q h k).1) r.0 r.1 r.2 o

-- ---- the search at the first node

module _ {g : Graph} {rules : List Rule} {c : List ℕ} (succ fits : List ℕ) (of : WordsOf g rules c succ fits) (a b : ℕ) where
  by_steps : (between : List ℕ) → Route g c a between b → Passes succ a between b
  by_steps between r = record { follows = follows_up (λ p q. (of.steps p q).1) a between b r.follows; once = r.once }

  shown : {l : List ℕ} → Earliest (Sought succ fits a b) l → AskedWithout g rules c a b (a ∷ l)
  shown {l} first = go (begun succ fits a b first.one)
    where
      go : Begun succ fits a b l → AskedWithout g rules c a b (a ∷ l)
      go o = subst⁻¹ (λ (t : List ℕ). AskedWithout g rules c a b (a ∷ t)) o.whole (is_open record { route = route; unordered = unordered; first = earliest })
        where
          route : Route g c a o.rest b
          route = record { follows = follows_up (λ p q. (of.steps p q).0) a o.rest b o.follows; once = (begun_passes succ fits a b o).once }

          unordered : ¬ Orders g rules a o.rest b
          unordered h = o.unordered (to_words g rules fits of.sound of.ruled c a o.rest b route.follows h)

          earliest : (other : List ℕ) → Route g c a other b → ¬ Orders g rules a other b → First (along a o.rest b) (along a other b)
          earliest other r u =
              let least : First l (other ++ b ∷ []) =
              ⊎_elim (λ h. absurd (u (to_graph g rules fits of.sound of.ruled c a other b r.follows h))) (first.least (other ++ b ∷ []))
              (passed succ fits a b other (by_steps other r)) in
              inr (refl, rw o.whole at least)

  none_asked : ((l : List ℕ) → Sought succ fits a b l → ⊥) → AskedWithout g rules c a b []
  none_asked nothing =
      is_held
      (λ between r. to_graph g rules fits of.sound of.ruled c a between b r.follows (none_left succ fits a b nothing between (by_steps between r)))

  one_asked : {route l : List ℕ} → route ≡ a ∷ l → Earliest (Sought succ fits a b) l → AskedWithout g rules c a b route
  one_asked e first = subst⁻¹ (AskedWithout g rules c a b) e (shown first)

-- ---- what the walk shows, by where it starts: the first node alone is visited, and what its rules order is ordered after it

module _ {succ fits : List ℕ} {a b visited after : ℕ} (alone : visited ≡ put 0 a) (ordered : after ≡ get_or fits a 0) where
  pub none_shown : ((l : List ℕ) → GoesOn succ fits b visited after a l → ⊥) → AskedOf succ fits a b [] × ByTables succ fits a b []
  none_shown nothing =
      let n = rw (alone, ordered) at nothing in
      (λ g rules c words. none_asked succ fits words a b n, none_sought succ fits a b n)

  pub one_shown : {way : Bool} {visited' after' : ℕ} {nodes nodes' : List ℕ}
      → take 1 nodes ≡ a ∷ []
      → Decides (GoesOn succ fits b) a way visited visited' after after' nodes nodes'
      → way ≡ true
      → AskedOf succ fits a b (take (ones visited') nodes') × ByTables succ fits a b (take (ones visited') nodes')
      × (0 < length (take (ones visited') nodes')) × (length (take (ones visited') nodes') ≤ most_nodes)
  one_shown {visited' = visited'} {nodes = nodes} {nodes' = nodes'} begins answer e =
      let f = (rw (alone, ordered) at answer).found e in
      let first : take (ones (put 0 a)) nodes ≡ a ∷ [] = rw (put_zero_count a) begins in
      let route : take (ones visited') nodes' ≡ a ∷ f.0 = f.2 ∙ ap (λ (l : List ℕ). l ++ f.0) first in (
        λ g rules c words. one_asked succ fits words a b route f.3,
        one_sought succ fits a b route f.3.one,
        omega (arith, ap length route),
        omega (arith, length-take (ones visited') nodes', f.1),
      )
