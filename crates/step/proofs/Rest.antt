-- What holds of every list that the search looks for: it starts with a node that is not on the route, and the goal is not ordered yet.
-- Assumes nothing.
use mathlib.Core.Bool.{true, false}
use mathlib.Core.List.{List}
use mathlib.Core.Logic.{inl, ⊎_elim}
use mathlib.Core.Path.{◌≡◌, refl, sym, ap, ◌∙◌}
use Prim.Native.Nat.{ℕ, ◌<◌}
use lib.ListN.{get_or}
use Rattle.flags.specs.Flag.{flag, either}
use Rattle.flags.proofs.Pair.{either_l, either_r, either_cases}
use Rattle.graph.specs.Cut.{First}
use Rattle.graph.proofs.Splits.{bool, true_false}
use Rattle.step.specs.Rest.{Rest, ends, goes, mark}
use Rattle.words.specs.Words.{listed}

-- ---- `after` changes where v is in it, and only grows

module _ (fits : List ℕ) (after v : ℕ) where
  pub mark_same : flag after v ≡ false → mark fits after v ≡ after
  mark_same e = rw e refl

  pub mark-more : flag after v ≡ true → mark fits after v ≡ either after (get_or fits v 0)
  mark-more e = rw e refl

  pub mark_keeps : (k : ℕ) → flag after k ≡ true → flag (mark fits after v) k ≡ true
  mark_keeps k e = ⊎_elim (λ p. rw (mark-more p) (either_l after (get_or fits v 0) k e)) (λ p. rw (mark_same p) e) (bool (flag after v))

  pub mark_new : (k : ℕ) → flag after v ≡ true → listed fits v k ≡ true → flag (mark fits after v) k ≡ true
  mark_new k e f = rw (mark-more e) (either_r after (get_or fits v 0) k f)

pub mark_grown : (fits : List ℕ) (v a b : ℕ) → ((k : ℕ) → flag a k ≡ true → flag b k ≡ true) → (k : ℕ) → flag (mark fits a v) k ≡ true
    → flag (mark fits b v) k ≡ true
mark_grown fits v a b up k h =
    ⊎_elim
    (λ p. ⊎_elim (λ q. mark_keeps fits b v k (up k q)) (mark_new fits b v k (up v p)) (either_cases a (get_or fits v 0) k (rw (mark-more fits a v p) at h)))
    (λ p. mark_keeps fits b v k (up k (rw (mark_same fits a v p) at h)))
    (bool (flag a v))

module _ (succ fits : List ℕ) (goal : ℕ) where
  pub rest_new : {visited after v : ℕ} {l : List ℕ} → Rest succ fits goal visited after v l → flag visited v ≡ false
  rest_new (ends f g h) = f
  rest_new (goes f g h t) = f

  pub rest_open : {visited after v : ℕ} {l : List ℕ} → Rest succ fits goal visited after v l → flag after goal ≡ true → ⊥
  rest_open {visited} {after} (ends f g h) e = true_false e (ap (flag after) (sym g) ∙ h)
  rest_open {visited} {after} {v} (goes f g h t) e = rest_open t (mark_keeps fits after v goal e)

  -- it does not start with a node that would order the goal
  pub rest_live : {visited after v : ℕ} {l : List ℕ} → Rest succ fits goal visited after v l → flag after v ≡ true → listed fits v goal ≡ true → ⊥
  rest_live (ends p q h) e f = true_false e h
  rest_live {visited} {after} {v} (goes p q h t) e f = rest_open t (mark_new fits after v goal e f)

  -- one that starts with a lower node comes first
  pub rest_first : {visited after j k : ℕ} (l s : List ℕ) → j < k → Rest succ fits goal visited after j l → Rest succ fits goal visited after k s → First l s
  rest_first l s h (ends a b c) (ends a' b' c') = inl h
  rest_first l s h (ends a b c) (goes a' b' c' d') = inl h
  rest_first l s h (goes a b c d) (ends a' b' c') = inl h
  rest_first l s h (goes a b c d) (goes a' b' c' d') = inl h
