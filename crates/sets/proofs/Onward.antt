-- The lowest number from one on that is in one set and not in another: in the word of that number, then word by word.
-- Assumes nothing.
use mathlib.Core.Bool.{true, false, true≢false}
use mathlib.Core.List.{List}
use Rattle.std.specs.Prelude.{Some, None}
use mathlib.Core.Path.{◌≡◌, sym, ap, subst, ◌∙◌}
use Prim.Native.Nat.{ℕ, ◌+◌, ◌-◌, ◌*◌, ◌/◌, ◌%◌, ◌^◌, ◌<◌, ◌≤◌}
use native.Mathlib.Decide.{dec_lt}
use native.Mathlib.Omega.{arith}
use lib.ListN.{length, get_or, get_or-eq_default}
use Rattle.flags.specs.Flag.{flag, less, lowest, above}
use Rattle.flags.proofs.Digit.{flag-above, flag_lt, flag_zero}
use Rattle.flags.proofs.Least.{Least, lowest_some, lowest_none}
use Rattle.flags.proofs.Pair.{less_l, less_new, less_gone}
use Rattle.sets.specs.Whole.{words, Small, whole, most, Ahead}
use Rattle.sets.proofs.Words.{whole_at, whole-flag}

-- a set has no number from 512 on
pub beyond : (a : List ℕ) (k : ℕ) → Small a → length a ≡ words → most ≤ k → flag (whole a) k ≡ false
beyond a k sa len h = whole_at a k sa ∙ ap (λ (w : ℕ). flag w (k % 64)) (get_or-eq_default a 0 {n = k / 64} (omega (arith, h, len))) ∙ flag_zero (k % 64)

-- what of a stands between two numbers is in b
abbrev pub Passed : ℕ → ℕ → ℕ → ℕ → Type 0
Passed a b from k = (j : ℕ) → from ≤ j → j < k → flag a j ≡ true → flag b j ≡ true

module _ (a b : List ℕ) (sa : Small a) (sb : Small b) where
  pub ahead_all : (from k : ℕ) → length a ≡ words → most ≤ k → Passed (whole a) (whole b) from k → Ahead (whole a) (whole b) from None
  ahead_all from k len h p j f g = by j f g (dec_lt j most)
    where
      by : (j : ℕ) → from ≤ j → flag (whole a) j ≡ true → Dec (j < most) → flag (whole b) j ≡ true
      by j f g (yes l) = p j f (omega (arith, h, l)) g
      by j f g (no l) = absurd (true≢false (sym g ∙ beyond a j sa len (omega (arith, l))))

  -- the word of k, and what it has from there on
  module _ (from k : ℕ) (begun : from ≤ k) (passed : Passed (whole a) (whole b) from k) where
    abbrev x : ℕ
    x = get_or a (k / 64) 0

    abbrev y : ℕ
    y = get_or b (k / 64) 0

    abbrev left : ℕ
    left = above (less x y) (k % 64)

    -- a number of that word, by how far it is from k
    there : (t : ℕ) → k % 64 + t < 64 → (ws : List ℕ) → Small ws → flag (whole ws) (k + t) ≡ flag (get_or ws (k / 64) 0) (k % 64 + t)
    there t h ws s = let e : k + t ≡ k / 64 * 64 + (k % 64 + t) = omega arith in ap (flag (whole ws)) e ∙ whole-flag ws (k / 64) (k % 64 + t) s h

    gone : (t : ℕ) → k % 64 + t < 64 → flag left t ≡ false → flag (whole a) (k + t) ≡ true → flag (whole b) (k + t) ≡ true
    gone t h z f = there t h b sb ∙ less_gone x y (k % 64 + t) (sym (flag-above (less x y) (k % 64) t) ∙ z) (sym (there t h a sa) ∙ f)

    -- what is passed goes on where some more of the word is gone
    farther : (n : ℕ) → ((t : ℕ) → t < n → k % 64 + t < 64) → ((t : ℕ) → t < n → flag left t ≡ false) → Passed (whole a) (whole b) from (k + n)
    farther n within z j f l g = by (dec_lt j k)
      where
        by : Dec (j < k) → flag (whole b) j ≡ true
        by (yes h) = passed j f h g
        by (no h) =
            let e : k + (j - k) ≡ j = omega (arith, h) in
            let t : j - k < n = omega (arith, h, l) in
            ap (flag (whole b)) (sym e) ∙ gone (j - k) (within (j - k) t) (z (j - k) t) (ap (flag (whole a)) e ∙ g)

    pub passed_word : (w : ℕ) → w ≡ left → lowest w ≡ None → Passed (whole a) (whole b) from (k + (64 - k % 64))
    passed_word w e n = farther (64 - k % 64) (λ t h. omega (arith, h)) (λ t h. ap (λ (v : ℕ). flag v t) (sym e ∙ lowest_none w n) ∙ flag_zero t)

    module _ (w t : ℕ) (fit : less x y < 2 ^ 64) (fits : w < 2 ^ 64) (e : w ≡ left) (low : lowest w ≡ Some t) where
      least : Least left t
      least = subst (λ (v : ℕ). Least v t) e (lowest_some w t fits low)

      is : flag (less x y) (k % 64 + t) ≡ true
      is = sym (flag-above (less x y) (k % 64) t) ∙ least.set

      pub in_word : k % 64 + t < 64
      in_word = flag_lt (less x y) (k % 64 + t) fit is

      pub ahead_at : k < most → Ahead (whole a) (whole b) from (Some (k + t))
      ahead_at h = (
        omega (arith, begun),
        omega (arith, h, in_word),
        there t in_word a sa ∙ less_l x y (k % 64 + t) is,
        there t in_word b sb ∙ less_new x y (k % 64 + t) is,
        farther t (λ u l. omega (arith, l, in_word)) (λ u l. least.first u l),
      )
