-- When there is no hope: the goal is ordered already, or whatever way leads there orders it.
-- Assumes nothing.
use mathlib.Core.Bool.{Bool, true, false, ◌&&◌}
use mathlib.Core.List.{List}
use mathlib.Core.Path.{◌≡◌, refl, sym, ap, ap₂, ◌∙◌}
use Prim.Native.Nat.{ℕ}
use lib.Dec.{ltb}
use lib.ListN.{get_or}
use borrow.Author.Tests.{lt-ltb, ltb-true}
use Rattle.flags.specs.Flag.{flag, put}
use Rattle.flags.proofs.Digit.{unset}
use Rattle.flags.proofs.Put.{put_keeps}
use Rattle.graph.proofs.Splits.{true_false}
use Rattle.step.specs.Rest.{Rest, ends, goes, GoesOn, mark}
use Rattle.hope.specs.Hope.{Into, IntoOf}
use Rattle.sets.specs.Whole.{Inside}
use Rattle.words.specs.Words.{listed}
use Rattle.words.proofs.Fill.{Gathered}
use Rattle.step.proofs.Rest.{mark_grown, rest_new, rest_live}

-- ---- the nodes that some rule fits with the goal

both_so : (a b : Bool) → (a && b) ≡ true → (a ≡ true) × (b ≡ true)
both_so true b e = (refl, e)
both_so false b e = true_false e refl

pub gathered_into : (fits : List ℕ) (goal n into : ℕ) → Gathered (λ p. listed fits p goal) n into → IntoOf fits goal n into
gathered_into fits goal n into g p = (
  λ e. let b = both_so (ltb p n) (listed fits p goal) (sym (g p) ∙ e) in (ltb-true p n b.0, b.1),
  λ h. g p ∙ ap₂ ◌&&◌ (lt-ltb p n h.0) h.1,
)

-- ---- nothing goes on

-- where m is ordered on arrival at x, the nodes that a way may go on to are met, and their rows are within m
abbrev pub Below : List ℕ → ℕ → ℕ → ℕ → List ℕ → ℕ → ℕ → Type 0
Below succ into visited met least x m =
    (y : ℕ) → listed succ x y ≡ true → flag visited y ≡ false → (flag m y ≡ true → flag into y ≡ true → ⊥) → (flag met y ≡ true) × Inside (get_or least y 0) m

module _ (succ fits : List ℕ) (goal into visited after : ℕ) (known : Into fits goal into) where
  module _ (met : ℕ) (least : List ℕ) (closed : (x : ℕ) → flag met x ≡ true → Below succ into visited met least x (mark fits (get_or least x 0) x))
      (lost : flag met goal ≡ true → listed least goal goal ≡ true) where
    -- what comes next on a route: it was not visited, and it is not one that would order the goal
    step : {vis aft y : ℕ} {l : List ℕ} (k m : ℕ) → Inside visited vis → Inside m aft → Below succ into visited met least k m → listed succ k y ≡ true
        → Rest succ fits goal vis aft y l → (flag met y ≡ true) × Inside (get_or least y 0) aft
    step {vis} {aft} {y} k m w u below s t =
        let b = below y s (unset (λ p. true_false (w y p) (rest_new succ fits goal t))) (λ p q. rest_live succ fits goal t (u y p) (known y q)) in
        (b.0, λ j h. u j (b.1 j h))

    no_rest : {vis aft v : ℕ} {l : List ℕ} → Inside visited vis → (flag met v ≡ true) × Inside (get_or least v 0) aft → Rest succ fits goal vis aft v l → ⊥
    no_rest {vis} {aft} {v} w (h, u) (ends f g open') =
        true_false (u v (ap (λ (x : ℕ). listed least x x) g ∙ lost (ap (flag met) (sym g) ∙ h))) open'
    no_rest {vis} {aft} {v} w (h, u) (goes {k = k} f g s t) =
        let w' : Inside visited (put vis v) = λ j p. put_keeps vis v j (w j p) in
        no_rest w' (step v (mark fits (get_or least v 0) v) w' (mark_grown fits v (get_or least v 0) aft u) (closed v h) s t) t

    pub no_next : (v : ℕ) → Below succ into visited met least v after → (l : List ℕ) → GoesOn succ fits goal visited after v l → ⊥
    no_next v start l (k, s, t) = no_rest (λ j p. p) (step v after (λ j p. p) (λ j p. p) start s t) t
