-- What `lower` keeps while it goes through the nodes whose rows are to be brought down.
-- Assumes nothing.
use mathlib.Core.Bool.{true}
use mathlib.Core.List.{List}
use mathlib.Core.Logic.{⊎_elim}
use mathlib.Core.Path.{◌≡◌, refl, sym, ap, ◌∙◌}
use Prim.Native.Nat.{ℕ}
use native.Mathlib.Decide.{ℕ_discrete}
use native.Mathlib.Omega.{arith}
use lib.ListN.{get_or-eq_default, length-set, length, get_or, set}
use lib.Seq.{get_or-set_same, get_or-set_other}
use Rattle.flags.specs.Flag.{flag, put, either, both}
use Rattle.flags.proofs.Digit.{unset, flag_zero}
use Rattle.flags.proofs.Pair.{either_l, either_r, either_cases, both_true}
use Rattle.flags.proofs.Put.{put_same, put_cases, put_keeps}
use Rattle.graph.proofs.Splits.{lt_or_ge, true_false}
use Rattle.hope.specs.Hope.{Lowered}
use Rattle.sets.specs.Whole.{Inside}

pub lowered_none : (l : List ℕ) (met m : ℕ) → Lowered l l met 0 m 0
lowered_none l met m = record {
  to = λ y h. true_false h (flag_zero y);
  down = λ y h k s. s;
  same = λ y h. refl;
}

-- its row was within m already
pub lowered_same : {high low : List ℕ} {met done m fell : ℕ} (y : ℕ) → flag met y ≡ true → Inside (get_or low y 0) m → Lowered high low met done m fell
    → Lowered high low met (put done y) m fell
lowered_same {met = met} {done = done} {fell = fell} y old inside was = record {
  to = λ z h. ⊎_elim (λ (d : z ≡ y). rw d (either_l met fell y old, inside)) (λ p. was.to z p) (put_cases done y z h);
  down = was.down;
  same = was.same;
}

-- it has another row, within m and, where it had one, within that
module _ {high low : List ℕ} {met done m fell : ℕ} (y new : ℕ) (within : Inside new m) (less : flag met y ≡ true → Inside new (get_or low y 0))
    (was : Lowered high low met done m fell) where
  abbrev low' : List ℕ
  low' = set low y new

  at : Inside (get_or low' y 0) new
  at k s =
      ⊎_elim (λ h. ap (λ (w : ℕ). flag w k) (sym (get_or-set_same low y new 0 h)) ∙ s)
      (λ h. true_false s (ap (λ (w : ℕ). flag w k) (get_or-eq_default low' 0 {n = y} (omega (arith, h, length-set low y new))) ∙ flag_zero k))
      (lt_or_ge y (length low))

  off : (z : ℕ) → (z ≡ y → ⊥) → get_or low' z 0 ≡ get_or low z 0
  off z n = get_or-set_other low y z new 0 n

  wider : (z : ℕ) → flag (either met fell) z ≡ true → flag (either met (put fell y)) z ≡ true
  wider z h = ⊎_elim (λ p. either_l met (put fell y) z p) (λ p. either_r met (put fell y) z (put_keeps fell y z p)) (either_cases met fell z h)

  to' : (z : ℕ) → flag (put done y) z ≡ true → Dec (z ≡ y) → (flag (either met (put fell y)) z ≡ true) × Inside (get_or low' z 0) m
  to' z g (yes d) = rw d (either_r met (put fell y) y (put_same fell y), λ k s. within k (at k s))
  to' z g (no n) =
      let t = was.to z (⊎_elim (λ (d : z ≡ y). absurd (n d)) (λ p. p) (put_cases done y z g)) in
      (wider z t.0, rw (off z n) t.1)

  down' : (z : ℕ) → flag met z ≡ true → Dec (z ≡ y) → Inside (get_or low' z 0) (get_or high z 0)
  down' z h (yes d) = rw d (λ k s. was.down y (ap (flag met) (sym d) ∙ h) k (less (ap (flag met) (sym d) ∙ h) k (at k s)))
  down' z h (no n) = rw (off z n) (was.down z h)

  pub lowered_set : Lowered high low' met (put done y) m (put fell y)
  lowered_set = record {
    to = λ z g. to' z g (ℕ_discrete z y);
    down = λ z h. down' z h (ℕ_discrete z y);
    same = λ z f.
        off z (λ d. true_false (put_same fell y) (ap (flag (put fell y)) (sym d) ∙ f)) ∙ was.same z (unset (λ p. true_false (put_keeps fell y z p) f));
  }

-- what is in both is within each
pub fallen : (old m new : ℕ) → new ≡ both old m → Inside new old × Inside new m
fallen old m new e = (λ k h. (both_true old m k (rw e at h)).0, λ k h. (both_true old m k (rw e at h)).1)

pub lowered_all : {high low : List ℕ} {met m fell done : ℕ} (next : ℕ) → Inside next done → Lowered high low met done m fell → Lowered high low met next m fell
lowered_all next all was = record { to = λ y h. was.to y (all y h); down = was.down; same = was.same }
