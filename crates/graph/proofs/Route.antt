-- What a route is, as a test; and a test at every route.
-- Assumes nothing.
use mathlib.Core.Bool.{Bool, ◌&&◌}
use mathlib.Core.List.{List, [], ◌∷◌, ◌++◌}
use mathlib.Core.Path.{subst}
use Prim.Native.Nat.{ℕ, ◌<◌}
use lib.Dec.{eqb}
use lib.ListN.{length}
use Rattle.graph.specs.Graph.{Graph, Sound, edge}
use Rattle.graph.specs.Held.{Within, Step, Follows, Route}
use Rattle.graph.proofs.Lists.{every_list, every_list_so, every_list_back}
use Rattle.graph.proofs.Says.{Says, says_and, implies, says_implies, says_iff, says_eq, says_absent, absentb, none_twiceb, says_none_twice, some_below, says_below}
use Rattle.graph.proofs.Walked.{none_twice_split}

module _ (g : Graph) (c : List ℕ) where
  abbrev pub stepb : ℕ → ℕ → Bool
  stepb x y = some_below (length g.edges) (λ i. absentb i c && (eqb (edge g i).from x && eqb (edge g i).to y))

  pub says_step : (x y : ℕ) → Says (stepb x y) (Step g c x y)
  says_step x y = says_iff (λ (i, h, (o, (f, t))). (i, h, o, f, t)) (λ (i, h, o, f, t). (i, h, (o, (f, t))))
      (says_below (length g.edges) (λ i h. says_and (says_absent i c) (says_and (says_eq (edge g i).from x) (says_eq (edge g i).to y))))

  abbrev pub followsb : ℕ → List ℕ → ℕ → Bool
  followsb a [] b = stepb a b
  followsb a (x ∷ between) b = stepb a x && followsb x between b

  pub says_follows : (a : ℕ) (between : List ℕ) (b : ℕ) → Says (followsb a between b) (Follows (Step g c) a between b)
  says_follows a [] b = says_step a b
  says_follows a (x ∷ between) b = says_and (says_step a x) (says_follows x between b)

  abbrev pub routeb : ℕ → List ℕ → ℕ → Bool
  routeb a between b = none_twiceb (a ∷ between ++ (b ∷ [])) && followsb a between b

  pub says_route : (a : ℕ) (between : List ℕ) (b : ℕ) → Says (routeb a between b) (Route g c a between b)
  says_route a between b = says_iff (λ (o, f). record { follows = f; once = o }) (λ r. (r.once, r.follows))
      (says_and (says_none_twice (a ∷ between ++ (b ∷ []))) (says_follows a between b))

  -- the nodes between are nodes
  inner : Sound g → (a : ℕ) (between : List ℕ) (b : ℕ) → Follows (Step g c) a between b → Within (length g.nodes) between
  inner sound a [] b f = tt
  inner sound a (x ∷ between) b ((i, h, o, from, to), f) =
      (subst (λ (y : ℕ). y < length g.nodes) to (sound.ends i h).1, inner sound x between b f)

  -- a test at every route from a to b, on none of c
  abbrev pub every_route : ℕ → ℕ → (List ℕ → Bool) → Bool
  every_route a b f = every_list (length g.nodes) (λ between. implies (routeb a between b) (f between))

  pub says_every_route : Sound g → (a b : ℕ) {f : List ℕ → Bool} {P : List ℕ → Type 0} → ((l : List ℕ) → Says (f l) (P l))
      → Says (every_route a b f) ((between : List ℕ) → Route g c a between b → P between)
  says_every_route sound a b {f} {P} s = record {
    so = λ t between r. (says_implies (says_route a between b) (s between)).so
        (every_list_so (length g.nodes) (λ l. implies (routeb a l b) (f l)) t between (inner sound a between b r.follows)
        (none_twice_split between (b ∷ []) r.once.1).0) r;
    back = λ h. every_list_back (length g.nodes) (λ l. implies (routeb a l b) (f l)) (λ l. (says_implies (says_route a l b) (s l)).back (h l));
  }
