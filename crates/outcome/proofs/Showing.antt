-- Ask: one law for each way out.
-- Assumes nothing.
use mathlib.Core.List.{List, ◌++◌}
use mathlib.Core.Path.{◌≡◌, ap, refl, ◌∙◌, sym}
use Prim.Native.Nat.{◌<◌, ◌≤◌, ℕ, ◌+◌, suc}
use native.Mathlib.Numerals.{add-one}
use native.Mathlib.Omega.{arith}
use lib.ListN.{length, drop, get_or, set, take}
use lib.Seq.{append_snoc, drop-cons, length-take-le, set_at, take-suc}
use Rattle.outcome.specs.declared.Shown.{Shown}
use Rattle.request.specs.declared.Answer.{Answer}
use Rattle.request.specs.declared.Answer.TheVariants.{NoSuchOrder, ShortBuffer}
use Rattle.outcome.specs.Outcome.{AskBad, AskOutcome, accepted, in_file, no_such_order, over, refused, too_short, unshown}
use Rattle.graph.specs.Ask.{Asked}
use Rattle.graph.specs.Graph.{order}
use Rattle.graph.specs.Limits.{most_nodes}
use Rattle.request.specs.Answers.{rank}
use Rattle.request.specs.File.{Request}
use Rattle.outcome.proofs.Reading.{reads_clean, reads_unique}
use Rattle.request.specs.Proper.{Reads}

module _ (s : List ℕ) (q : Request) (k : ℕ) (reads : Reads s q) (before : List ℕ) where
  pub ask_number : length q.orders ≤ k → AskOutcome s k before (unshown NoSuchOrder 0) before
  ask_number h = refused NoSuchOrder 0 record { bad = no_such_order q reads h; lowest = low; earliest = λ p b. omega arith } refl refl
    where
      low : (a : Answer) (p : ℕ) → AskBad s k (length before) a p → rank NoSuchOrder ≤ rank a
      low a p (in_file b) = absurd (reads_clean reads b)
      low a p (no_such_order r x y) = omega arith
      low a p (too_short x) = omega arith

  module _ (there : k < length q.orders) where
    not_missing : (r : Request) → Reads s r → length r.orders ≤ k → ⊥
    not_missing r x y = let e : length r.orders ≡ length q.orders = ap (λ (z : Request). length z.orders) (reads_unique x reads) in omega arith

    pub ask_short : length before < most_nodes → AskOutcome s k before (unshown ShortBuffer 0) before
    ask_short h = refused ShortBuffer 0 record { bad = too_short h; lowest = low; earliest = λ p b. omega arith } refl refl
      where
        low : (a : Answer) (p : ℕ) → AskBad s k (length before) a p → rank ShortBuffer ≤ rank a
        low a p (in_file b) = absurd (reads_clean reads b)
        low a p (no_such_order r x y) = absurd (not_missing r x y)
        low a p (too_short x) = omega arith

    pub ask_accepted : most_nodes ≤ length before → (route : List ℕ) → Asked q.graph q.rules (order q.orders k) route → (r : Shown) (after : List ℕ)
        → r ≡ record { answer = 0; place = 0; length = length route } → after ≡ over before route → AskOutcome s k before r after
    ask_accepted h route shown r after e f = accepted q route reads shown none_bad e f
      where
        none_bad : (a : Answer) (p : ℕ) → ¬ AskBad s k (length before) a p
        none_bad a p (in_file b) = reads_clean reads b
        none_bad a p (no_such_order r x y) = not_missing r x y
        none_bad a p (too_short x) = omega arith

-- ---- a route copied to the front of a buffer

pub copied_more : (o xs : List ℕ) (i : ℕ) → i < length o → i < length xs → set (take i xs ++ drop i o) i (get_or xs i 0) ≡ take (i + 1) xs ++ drop (i + 1) o
copied_more o xs i h l = rw add-one (
    ap (λ (r : List ℕ). set (take i xs ++ r) i (get_or xs i 0)) (drop-cons o i 0 h)
    ∙ set_at (take i xs) (get_or o i 0) (drop (suc i) o) (get_or xs i 0) i (length-take-le i xs (omega arith))
    ∙ sym (append_snoc (take i xs) (get_or xs i 0) (drop (suc i) o))
    ∙ ap (λ (r : List ℕ). r ++ drop (suc i) o) (sym (take-suc xs i 0 l)))
