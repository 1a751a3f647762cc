-- An element after a store, how many nodes are not reached, and where ways start.
-- Assumes nothing.
use mathlib.Core.List.{List, [], ◌∷◌}
use mathlib.Core.Logic.{◌⊎◌, inl, inr, ◌≢◌}
use mathlib.Core.Path.{◌≡◌, sym, ap, ◌∙◌}
use Prim.Native.Nat.{ℕ, zero, suc, ◌+◌, ◌<◌}
use native.Mathlib.Decide.{ℕ_discrete}
use native.Mathlib.Omega.{arith}
use lib.ListN.{length, get_or, set}
use lib.Seq.{get_or-set_same, get_or-set_other}
use Rattle.route.specs.declared.Onward.{Onward}
use Rattle.route.specs.Spread.{miss, unseen, onward, Reached}
use Rattle.route.specs.Way.{Way, Remains, Sealed}

-- nothing leads on to the nodes that are reached
abbrev pub Shut : List ℕ → List ℕ → List ℕ → List Onward → Type 0
Shut from to left on = (e : ℕ) → e < length from → Remains left e → Reached on (get_or to e 0) → Reached on (get_or from e 0)

-- an element after a store
pub set_at : {A : Type 0} (d : A) (l : List A) (v : ℕ) (x : A) (w : ℕ) → v < length l
    → ((w ≡ v) × (get_or (set l v x) w d ≡ x)) ⊎ ((w ≢ v) × (get_or (set l v x) w d ≡ get_or l w d))
set_at {A} d l v x w h = go (ℕ_discrete w v)
  where
    go : Dec (w ≡ v) → ((w ≡ v) × (get_or (set l v x) w d ≡ x)) ⊎ ((w ≢ v) × (get_or (set l v x) w d ≡ get_or l w d))
    go (yes p) = inl (p, ap (λ (j : ℕ). get_or (set l v x) j d) p ∙ get_or-set_same l v x d h)
    go (no p) = inr (p, get_or-set_other l v w x d p)

pub at_same : (l : List ℕ) {x y : ℕ} → x ≡ y → get_or l x 0 ≡ get_or l y 0
at_same l p = ap (λ (j : ℕ). get_or l j 0) p

pub unseen-set : (on : List Onward) (v : ℕ) (x : Onward) → v < length on → miss (onward on v) ≡ 1 → miss x ≡ 0 → unseen (set on v x) + 1 ≡ unseen on
unseen-set [] v x h f q = absurd (omega arith)
unseen-set (y ∷ l) zero x h f q = omega (arith, f, q)
unseen-set (y ∷ l) (suc v) x h f q = omega (arith, unseen-set l v x (omega arith) f q)

module _ (from to left : List ℕ) where
  -- where nothing leads on to what is reached, a way to it starts at what is reached
  pub way_back : (on : List Onward) → Shut from to left on → (a : ℕ) (es : List ℕ) (b : ℕ) → Way from to (Remains left) a es b → Reached on b → Reached on a
  way_back on s a [] b w h = ap (λ (v : ℕ). miss (onward on v)) w ∙ h
  way_back on s a (e ∷ es) b w h =
      ap (λ (v : ℕ). miss (onward on v)) (sym w.1) ∙ s e w.0 w.2 (way_back on s (get_or to e 0) es b w.3 h)

  -- where nothing is left of the edges that end at b, a way to b has no edge
  pub way_sealed : (b : ℕ) → length to ≡ length from → Sealed to left b → (a : ℕ) (es : List ℕ) → Way from to (Remains left) a es b → a ≡ b
  way_sealed b both s a [] w = w
  way_sealed b both s a (e ∷ es) w = absurd (s e (omega (arith, both, w.0)) (way_sealed b both s (get_or to e 0) es w.3) w.2)
