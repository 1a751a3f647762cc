-- Where there is no way there is no route.
-- Assumes nothing.
use mathlib.Core.Bool.{Bool, true}
use mathlib.Core.List.{List, [], ◌∷◌}
use mathlib.Core.Path.{◌≡◌, refl, subst⁻¹}
use Prim.Native.Nat.{ℕ, ◌<◌}
use native.Mathlib.Omega.{arith}
use lib.ListN.{length, get_or}
use Rattle.graph.specs.Held.{Follows}
use Rattle.route.specs.Way.{Way, Remains, Found}
use Rattle.walked.specs.Unordered.{Leads, FoundUnordered}
use Rattle.unordered.proofs.Turns.{nothing}

module _ (from to : List ℕ) (Ok : ℕ → Type 0) where
  way_by : (a : ℕ) (between : List ℕ) (b : ℕ) → Follows (Leads from to Ok) a between b → (es : List ℕ) × Way from to Ok a es b
  way_by a [] b (e, (h, o, f, t)) = (e ∷ [], (h, f, o, t))
  way_by a (x ∷ between) b ((e, (h, o, f, t)), s) =
      let w = way_by x between b s in
      (e ∷ w.0, (h, f, o, subst⁻¹ (λ (y : ℕ). Way from to Ok y w.0 b) t w.1))

pub wayless : {from to fits left : List ℕ} {a b : ℕ} {r route : List ℕ} → Found from to left a b r → length r ≡ 0 → length route ≡ 0
    → FoundUnordered from to fits left a b route
wayless {r = x ∷ r} f z e = absurd (omega (arith, z))
wayless {route = x ∷ route} f z e = absurd (omega (arith, e))
wayless {from} {to} {fits} {left} {a} {b} {r = []} {route = []} f z e =
    nothing (record { from = from; to = to; left = left; fits = fits; a = a; goal = b })
    (λ between u. let w = way_by from to (Remains left) a between b u.follows in f.none refl w.0 w.1)

-- a route that was found, and then judged
pub judged_found : {from to fits left : List ℕ} {a b : ℕ} {r route : List ℕ} {good : Bool} → Found from to left a b r
    → (good ≡ true → (left : List ℕ) → ((k : ℕ) → k < length route → Remains left (get_or route k 0)) → FoundUnordered from to fits left a b route)
    → good ≡ true → route ≡ r → FoundUnordered from to fits left a b r
judged_found {left = left} f j good e = rw e at (j good left (rw e (λ k h. (f.edge k h).1)))
