-- What `hopeful` keeps: the rows of the nodes that are met and not left to be looked at are brought down along their steps.
-- Assumes nothing.
use mathlib.Core.Bool.{true, false}
use mathlib.Core.List.{List}
use mathlib.Core.Logic.{⊎_elim}
use mathlib.Core.Path.{◌≡◌, sym, ap, ◌∙◌}
use Prim.Native.Nat.{ℕ}
use native.Mathlib.Decide.{ℕ_discrete}
use lib.ListN.{get_or}
use Rattle.flags.specs.Flag.{flag, put, either, both, less}
use Rattle.flags.proofs.Digit.{unset, flag_zero}
use Rattle.flags.proofs.Pair.{either_l, either_r, either_cases, both_true, less_in}
use Rattle.flags.proofs.Put.{put_other}
use Rattle.graph.proofs.Splits.{true_false}
use Rattle.step.specs.Rest.{GoesOn, mark}
use Rattle.hope.specs.Hope.{Lowered, Into, open_steps}
use Rattle.words.specs.Words.{listed}
use Rattle.hope.proofs.Hope.{Below, no_next}

module _ (succ fits : List ℕ) (into visited : ℕ) where
  -- the steps from v, where `after` is ordered, and those from the nodes that are met and not left to be looked at, come to nodes that are met
  pub record Settled (v after met : ℕ) (least : List ℕ) (left : ℕ) : Type 0 where
    pub first : Below succ into visited met least v after
    pub closed : (x : ℕ) → flag met x ≡ true → flag left x ≡ false → Below succ into visited met least x (mark fits (get_or least x 0) x)

  -- the steps from x, once their rows are brought down
  spread : {high low : List ℕ} {met fell m : ℕ} (x : ℕ)
      → Lowered high low met (open_steps succ into visited x m) m fell
      → Below succ into visited (either met fell) low x m
  spread {m = m} x lowered y s f n =
      lowered.to y (less_in (get_or succ x 0) (either visited (both m into)) y s (unset (λ h.
      ⊎_elim (λ p. true_false p f) (λ p. let q = both_true m into y p in n q.0 q.1) (either_cases visited (both m into) y h))))

  -- before the steps from v no node is met; then those that they come to are all left
  pub settled_start : {high low : List ℕ} {none fell after : ℕ} (v : ℕ)
      → none ≡ 0
      → Lowered high low none (open_steps succ into visited v after) after fell
      → Settled v after fell low fell
  settled_start {none = none} {fell = fell} v z lowered = record {
    first = λ y s f n. let b = spread v lowered y s f n in
        (⊎_elim (λ p. true_false p (ap (λ (w : ℕ). flag w y) z ∙ flag_zero y)) (λ p. p) (either_cases none fell y b.0), b.1);
    closed = λ x h o. true_false h o;
  }

  -- the steps from x, which is left no longer
  pub settled_on : {v after : ℕ} {high low : List ℕ} {met wide left m fell rest last : ℕ} (x : ℕ)
      → m ≡ mark fits (get_or high x 0) x
      → Lowered high low met (open_steps succ into visited x m) m fell
      → wide ≡ either met fell
      → rest ≡ less left (put 0 x)
      → last ≡ either rest fell
      → Settled v after met high left
      → Settled v after wide low last
  settled_on {v} {after} {high} {low} {met} {wide} {left} {m} {fell} {rest} {last} x e₁ lowered e₂ e₃ e₄ was = record {
    first = on v after was.first;
    closed = λ z h o. go z (before z h (fallen z o)) (fallen z o) (ℕ_discrete z x) (λ p. true_false (left_still z p) o);
  }
    where
      -- rows only fall, and more nodes are met
      on : (z k : ℕ) → Below succ into visited met high z k → Below succ into visited wide low z k
      on z k below y s f n =
          let b = below y s f n in
          (ap (λ (w : ℕ). flag w y) e₂ ∙ either_l met fell y b.0, λ j p. b.1 j (lowered.down y b.0 j p))

      left_still : (z : ℕ) → flag rest z ≡ true → flag last z ≡ true
      left_still z p = ap (λ (w : ℕ). flag w z) e₄ ∙ either_l rest fell z p

      -- a node that is not left now did not fall, so if it is met it was so before
      fallen : (z : ℕ) → flag last z ≡ false → flag fell z ≡ false
      fallen z o = unset (λ p. true_false (ap (λ (w : ℕ). flag w z) e₄ ∙ either_r rest fell z p) o)

      before : (z : ℕ) → flag wide z ≡ true → flag fell z ≡ false → flag met z ≡ true
      before z h o = ⊎_elim (λ p. p) (λ p. true_false p o) (either_cases met fell z (ap (λ (w : ℕ). flag w z) (sym e₂) ∙ h))

      still : (z : ℕ) → (z ≡ x → ⊥) → flag left z ≡ true → flag rest z ≡ true
      still z n p = ap (λ (w : ℕ). flag w z) e₃ ∙ less_in left (put 0 x) z p (put_other 0 x z n ∙ flag_zero z)

      go : (z : ℕ) → flag met z ≡ true → flag fell z ≡ false → Dec (z ≡ x) → (flag rest z ≡ true → ⊥)
          → Below succ into visited wide low z (mark fits (get_or low z 0) z)
      go z h f (yes d) r = rw (e₂, lowered.same z f, d, ← e₁) (spread x lowered)
      go z h f (no n) r = rw (lowered.same z f) (on z (mark fits (get_or high z 0) z) (was.closed z h (unset (λ p. r (still z n p)))))

  -- where none is left nothing goes on
  pub settled_all : {goal v after met : ℕ} {least : List ℕ} {left : ℕ}
      → Into fits goal into
      → Settled v after met least left
      → ((x : ℕ) → flag left x ≡ false)
      → (flag met goal ≡ true → listed least goal goal ≡ true)
      → (l : List ℕ) → GoesOn succ fits goal visited after v l → ⊥
  settled_all {goal} {v} {after} {met} {least} known was none lost =
      no_next succ fits goal into visited after known met least (λ x h. was.closed x h (none x)) lost v was.first
