-- Sought: what the search at the first node says of the routes by the tables. Each orders its ends, or it is one that is sought.
-- Assumes nothing.
use mathlib.Core.List.{List, [], ◌∷◌, ◌++◌}
use mathlib.Core.Logic.{◌⊎◌, ⊎_elim}
use mathlib.Core.Path.{◌≡◌, ap, subst⁻¹, ◌∙◌}
use Prim.Native.Nat.{ℕ}
use lib.ListN.{get_or}
use Rattle.flags.specs.Flag.{put}
use Rattle.graph.specs.Held.{Ordered}
use Rattle.graph.proofs.Walked.{apart_cons, apart_uncons, apart_nil}
use Rattle.step.specs.Rest.{GoesOn}
use Rattle.walk.specs.Asked.{Lists, Passes, ByTables, all_ordered, one_unordered}
use Rattle.walk.proofs.Carried.{carried_start}
use Rattle.walk.proofs.Completeness.{found_or_ordered}
use Rattle.walk.proofs.Soundness.{Onward, found_onward}

module _ (succ fits : List ℕ) (a b : ℕ) where
  -- what the search looks for at the first node
  abbrev pub Sought : List ℕ → Type 0
  Sought = GoesOn succ fits b (put 0 a) (get_or fits a 0) a

  -- a route orders its ends, or the search finds it
  pub passed : (between : List ℕ) → Passes succ a between b → Ordered (Lists fits) a between b ⊎ Sought (between ++ b ∷ [])
  passed between p =
      found_or_ordered succ fits a b between a (carried_start fits a) p.follows p.once.1
      (apart_cons a [] (between ++ b ∷ []) p.once.0 (apart_nil (between ++ b ∷ [])))

  -- what is sought goes on from the first node
  abbrev pub Begun : List ℕ → Type 0
  Begun = Onward succ fits a b (a ∷ []) [] a

  pub begun : {l : List ℕ} → Sought l → Begun l
  begun s = found_onward succ fits a b s.1 s.2 (carried_start fits a)

  pub begun_passes : {l : List ℕ} (o : Begun l) → Passes succ a o.rest b
  begun_passes o = record { follows = o.follows; once = ((apart_uncons a [] (o.rest ++ b ∷ []) o.apart).0, o.once) }

  -- ---- nothing that is sought, and something

  pub none_left : ((l : List ℕ) → Sought l → ⊥) → (between : List ℕ) → Passes succ a between b → Ordered (Lists fits) a between b
  none_left nothing between p = ⊎_elim (λ o. o) (λ t. absurd (nothing (between ++ b ∷ []) t)) (passed between p)

  pub none_sought : ((l : List ℕ) → Sought l → ⊥) → ByTables succ fits a b []
  none_sought nothing = all_ordered (none_left nothing)

  pub one_sought : {route l : List ℕ} → route ≡ a ∷ l → Sought l → ByTables succ fits a b route
  one_sought e s =
      let o = begun s in subst⁻¹ (ByTables succ fits a b) (e ∙ ap (λ (t : List ℕ). a ∷ t) o.whole) (one_unordered (begun_passes o) o.unordered)
