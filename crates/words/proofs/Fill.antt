-- Sets and tables filled one step at a time: a set number by number, a table row by row, and edge by edge.
-- Assumes nothing.
use mathlib.Core.Bool.{Bool, true, false, ◌&&◌}
use mathlib.Core.List.{List}
use mathlib.Core.Logic.{◌⊎◌, inl, inr, ⊎_elim, ◌↔◌}
use mathlib.Core.Path.{◌≡◌, refl, sym, ap, ◌∙◌}
use Prim.Native.Nat.{ℕ, zero, suc, ◌+◌, ◌<◌, ◌≤◌}
use native.Mathlib.Decide.{ℕ_discrete}
use native.Mathlib.Omega.{arith}
use lib.Dec.{ltb}
use lib.ListN.{length, get_or, set, replicate}
use lib.Seq.{get_or-set_same, get_or-set_other}
use borrow.Author.Tests.{lt-ltb, le-ltb}
use Rattle.flags.specs.Flag.{flag, put}
use Rattle.flags.proofs.Digit.{flag_zero}
use Rattle.flags.proofs.Put.{put_same, put_other, put_cases, put_keeps}
use Rattle.graph.specs.Limits.{most_nodes}
use Rattle.graph.proofs.Splits.{lt_or_ge, true_false}
use Rattle.words.specs.Words.{listed}

ltb_same : (k i : ℕ) → (k ≡ i → ⊥) → ltb k (i + 1) ≡ ltb k i
ltb_same k i n =
    ⊎_elim (λ h. lt-ltb k (i + 1) (omega arith) ∙ sym (lt-ltb k i h)) (λ h. le-ltb k (i + 1) (omega arith) ∙ sym (le-ltb k i h)) (lt_or_ge k i)

-- what holds below i + 1: what held below i, and the test at i
below_more : (test f f' : ℕ → Bool) (i : ℕ) → ((k : ℕ) → f k ≡ (ltb k i && test k)) → f' i ≡ test i → ((k : ℕ) → (k ≡ i → ⊥) → f' k ≡ f k)
    → (k : ℕ) → f' k ≡ (ltb k (i + 1) && test k)
below_more test f f' i g here others k = go (ℕ_discrete k i)
  where
    go : Dec (k ≡ i) → f' k ≡ (ltb k (i + 1) && test k)
    go (yes p) = rw p (here ∙ sym (ap (λ (b : Bool). b && test i) (lt-ltb i (i + 1) (omega arith))))
    go (no n) = others k n ∙ g k ∙ sym (ap (λ (b : Bool). b && test k) (ltb_same k i n))

-- ---- a set of the numbers below i that a test passes

module _ (test : ℕ → Bool) where
  abbrev pub Gathered : ℕ → ℕ → Type 0
  Gathered i w = (k : ℕ) → flag w k ≡ (ltb k i && test k)

  pub gathered_none : Gathered 0 0
  gathered_none k = flag_zero k ∙ sym (ap (λ (b : Bool). b && test k) (le-ltb k 0 (omega arith)))

  pub gathered_put : (i w : ℕ) → Gathered i w → test i ≡ true → Gathered (i + 1) (put w i)
  gathered_put i w g e = below_more test (flag w) (flag (put w i)) i g (put_same w i ∙ sym e) (put_other w i)

  pub gathered_skip : (i w : ℕ) → Gathered i w → test i ≡ false → Gathered (i + 1) w
  gathered_skip i w g e = below_more test (flag w) (flag w) i g (g i ∙ ap (λ (b : Bool). b && test i) (le-ltb i i (omega arith)) ∙ sym e) (λ k n. refl)

-- ---- a set of the numbers below i of which a test said `true`; R i b: of i it said b

module _ (R : ℕ → Bool → Type 0) where
  pub record Tested (i w : ℕ) : Type 0 where
    pub among : (k : ℕ) → k < i → R k (flag w k)
    pub past : (k : ℕ) → i ≤ k → flag w k ≡ false

  pub tested_none : (w : ℕ) → w ≡ 0 → Tested 0 w
  tested_none w e = record { among = λ k h. absurd (omega (arith, h)); past = λ k h. rw e (flag_zero k) }

  pub tested_put : (i w more : ℕ) → Tested i w → more ≡ put w i → R i true → Tested (i + 1) more
  tested_put i w more t e r = record {
    among = λ k h. go k h (ℕ_discrete k i);
    past = λ k h. rw (e, put_other w i k (λ p. omega (arith, p, h))) (t.past k (omega (arith, h)));
  }
    where
      go : (k : ℕ) → k < i + 1 → Dec (k ≡ i) → R k (flag more k)
      go k h (yes p) = rw (p, e, put_same w i) r
      go k h (no n) = rw (e, put_other w i k n) (t.among k (omega (arith, h, n)))

  pub tested_skip : (i w more : ℕ) → Tested i w → more ≡ w → R i false → Tested (i + 1) more
  tested_skip i w more t e r = record { among = λ k h. go k h (ℕ_discrete k i); past = λ k h. rw e (t.past k (omega (arith, h))) }
    where
      go : (k : ℕ) → k < i + 1 → Dec (k ≡ i) → R k (flag more k)
      go k h (yes p) = rw (p, e, t.past i (omega arith)) r
      go k h (no n) = rw e (t.among k (omega (arith, h, n)))

-- a test that computes, on the first i numbers
pub tested_is : (test : ℕ → Bool) (i w : ℕ) → ((k : ℕ) → k < i → flag w k ≡ test k) → ((k : ℕ) → i ≤ k → flag w k ≡ false) → (k : ℕ) → flag w k ≡ (ltb k i && test k)
tested_is test i w among past k =
    ⊎_elim (λ h. among k h ∙ sym (ap (λ (b : Bool). b && test k) (lt-ltb k i h))) (λ h. past k h ∙ sym (ap (λ (b : Bool). b && test k) (le-ltb k i h))) (lt_or_ge k i)

-- ---- a table, a row for each number below i

zeros : (n q : ℕ) → get_or {A = ℕ} (replicate n 0) q 0 ≡ 0
zeros zero q = refl
zeros (suc n) zero = refl
zeros (suc n) (suc q) = zeros n q

pub zero_words : (p q : ℕ) → listed (replicate most_nodes 0) p q ≡ false
zero_words p q = ap (λ (w : ℕ). flag w q) (zeros most_nodes p) ∙ flag_zero q

module _ (test : ℕ → ℕ → Bool) where
  abbrev pub Rows : ℕ → List ℕ → Type 0
  Rows i ws = (p q : ℕ) → listed ws p q ≡ (ltb p i && test p q)

  pub rows_start : Rows 0 (replicate most_nodes 0)
  rows_start p q = zero_words p q ∙ sym (ap (λ (b : Bool). b && test p q) (le-ltb p 0 (omega arith)))

  pub row_filled : (i w : ℕ) (ws : List ℕ) → Rows i ws → i < length ws → ((q : ℕ) → flag w q ≡ test i q) → Rows (i + 1) (set ws i w)
  row_filled i w ws g h f p q =
      below_more (λ k. test k q) (λ k. listed ws k q) (λ k. listed (set ws i w) k q) i (λ k. g k q)
      (ap (λ (x : ℕ). flag x q) (get_or-set_same ws i w 0 h) ∙ f q) (λ k n. ap (λ (x : ℕ). flag x q) (get_or-set_other ws i k w 0 n)) p

-- ---- a table with one number more in one row

pub listed-put : (ws : List ℕ) (f t : ℕ) → f < length ws → (p q : ℕ)
    → (listed (set ws f (put (get_or ws f 0) t)) p q ≡ true) ↔ ((listed ws p q ≡ true) ⊎ ((p ≡ f) × (q ≡ t)))
listed-put ws f t h p q = go (ℕ_discrete p f)
  where
    word : ℕ
    word = get_or ws f 0

    more : ℕ
    more = put word t

    go : Dec (p ≡ f) → (listed (set ws f more) p q ≡ true) ↔ ((listed ws p q ≡ true) ⊎ ((p ≡ f) × (q ≡ t)))
    go (yes d) =
        rw (d, get_or-set_same ws f more 0 h)
        (λ x. ⊎_elim (λ k. inr (refl, k)) inl (put_cases word t q x), ⊎_elim (put_keeps word t q) (λ (e, k). rw k (put_same word t)))
    go (no n) = rw (get_or-set_other ws f p more 0 n) (inl, ⊎_elim (λ x. x) (λ (e, k). absurd (n e)))

-- ---- a table that has what the first i of some steps lead to

module _ (R : ℕ → ℕ → ℕ → Type 0) where
  abbrev pub LedBy : ℕ → List ℕ → Type 0
  LedBy i ws = (p q : ℕ) → (listed ws p q ≡ true) ↔ ((e : ℕ) × (e < i) × R e p q)

  pub led_none : LedBy 0 (replicate most_nodes 0)
  led_none p q = (λ e. true_false e (zero_words p q), λ (j, h, r). absurd (omega (arith, h)))

  wider : {i p q : ℕ} → (e : ℕ) × (e < i) × R e p q → (e : ℕ) × (e < i + 1) × R e p q
  wider (j, h, r) = (j, omega (arith, h), r)

  narrower : (i p q : ℕ) → (e : ℕ) × (e < i + 1) × R e p q → ((e : ℕ) × (e < i) × R e p q) ⊎ R i p q
  narrower i p q (j, h, r) = ⊎_elim (λ l. inl (j, l, r)) (λ l. let e : j ≡ i = omega (arith, h, l) in inr (rw e at r)) (lt_or_ge j i)

  -- step i leads nowhere
  pub led_skip : (i : ℕ) (ws : List ℕ) → LedBy i ws → ((p q : ℕ) → R i p q → ⊥) → LedBy (i + 1) ws
  led_skip i ws s out p q = (λ x. wider ((s p q).0 x), λ l. ⊎_elim (s p q).1 (λ r. absurd (out p q r)) (narrower i p q l))

  -- step i leads from f to t alone
  pub led_put : (i : ℕ) (ws : List ℕ) (f t : ℕ) → LedBy i ws → f < length ws → R i f t → ((p q : ℕ) → R i p q → (p ≡ f) × (q ≡ t))
      → LedBy (i + 1) (set ws f (put (get_or ws f 0) t))
  led_put i ws f t s h r only p q =
      let more = listed-put ws f t h p q in (
        λ x. ⊎_elim (λ k. wider ((s p q).0 k)) (λ (d, k). (i, omega arith, rw (d, k) r)) (more.0 x),
        λ l. more.1 (⊎_elim (λ k. inl ((s p q).1 k)) (λ g. inr (only p q g)) (narrower i p q l)),
      )
