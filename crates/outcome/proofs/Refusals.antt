-- Refusals. A file that is refused: each operation gives that refusal, since what else applies to it has a higher rank. And demand 1.
-- Assumes nothing.
use mathlib.Core.List.{List}
use mathlib.Core.Logic.{◌⊎◌, inl, inr}
use mathlib.Core.Path.{◌≡◌, ap, refl}
use Prim.Native.Nat.{◌≤◌, ℕ}
use native.Mathlib.Omega.{arith}
use lib.ListN.{length}
use Rattle.outcome.specs.declared.Report.{Report}
use Rattle.outcome.specs.declared.Shown.{Shown}
use Rattle.request.specs.declared.Answer.{Answer}
use Rattle.request.specs.declared.Refusal.{Refusal}
use Rattle.std.specs.Prelude.{Err}
use Rattle.outcome.specs.Outcome.{AskBad, AskOutcome, RunBad, RunOutcome, StripBad, StripOutcome, accepted, in_file, no_such_order, no_room, not_loose, refusal, refused, too_short, unshown}
use Rattle.graph.specs.Refusal.{Refused}
use Rattle.request.specs.Answers.{rank}
use Rattle.request.specs.Bad.{Bad, beyond, unfenced, unread, wrong_edge, wrong_node, wrong_order, wrong_rule}
use Rattle.request.specs.Outcome.{Answered}

-- the answers of a file's records are 1 to 7
bad_rank : {s : List ℕ} {a : Answer} {p : ℕ} → Bad s a p → rank a ≤ 6
bad_rank (unread x) = omega arith
bad_rank (beyond w e x) = omega arith
bad_rank (wrong_node w e x) = omega arith
bad_rank (wrong_edge w e x) = omega arith
bad_rank (wrong_rule w e x) = omega arith
bad_rank (wrong_order w e x) = omega arith
bad_rank (unfenced w e x) = omega arith

module _ (s : List ℕ) (B : Answer → ℕ → Type 0) (of-file : (a : Answer) (p : ℕ) → Bad s a p → B a p)
    (later : (a : Answer) (p : ℕ) → B a p → Bad s a p ⊎ (7 ≤ rank a)) where
  file_refused : {a : Answer} {p : ℕ} → Refused rank (Bad s) a p → Refused rank B a p
  file_refused {a} {p} r = record { bad = of-file a p r.bad; lowest = λ b q x. low b q (later b q x); earliest = λ q x. early q (later a q x) }
    where
      six : rank a ≤ 6
      six = bad_rank r.bad

      low : (b : Answer) (q : ℕ) → Bad s b q ⊎ (7 ≤ rank b) → rank a ≤ rank b
      low b q (inl x) = r.lowest b q x
      low b q (inr x) = omega (arith, six)

      early : (q : ℕ) → Bad s a q ⊎ (7 ≤ rank a) → p ≤ q
      early q (inl x) = r.earliest q x
      early q (inr x) = absurd (let z : ⊥ = omega (arith, six) in z)

module _ {s : List ℕ} {e : Refusal} (l : Answered s (Err e)) (o : List ℕ) where
  pub run_refused : RunOutcome s o (refusal e.answer e.place) o
  run_refused = refused e.answer e.place (file_refused s (RunBad s (length o)) (λ b i y. in_file y) later l) refl refl
    where
      later : (b : Answer) (i : ℕ) → RunBad s (length o) b i → Bad s b i ⊎ (7 ≤ rank b)
      later b i (in_file y) = inl y
      later b i (no_room k c y z w) = inr (omega arith)
      later b i (too_short k c y z w) = inr (omega arith)

  pub ask_refused : (k : ℕ) → AskOutcome s k o (unshown e.answer e.place) o
  ask_refused k = refused e.answer e.place (file_refused s (AskBad s k (length o)) (λ b i y. in_file y) later l) refl refl
    where
      later : (b : Answer) (i : ℕ) → AskBad s k (length o) b i → Bad s b i ⊎ (7 ≤ rank b)
      later b i (in_file y) = inl y
      later b i (no_such_order q y z) = inr (omega arith)
      later b i (too_short y) = inr (omega arith)

  pub strip_refused : (c : ℕ) → StripOutcome s c o (refusal e.answer e.place) o
  strip_refused c = refused e.answer e.place (file_refused s (StripBad s c (length o)) (λ b i y. in_file y) later l) refl refl
    where
      later : (b : Answer) (i : ℕ) → StripBad s c (length o) b i → Bad s b i ⊎ (7 ≤ rank b)
      later b i (in_file y) = inl y
      later b i (not_loose k y z) = inr (omega arith)
      later b i (too_short k t h y z w) = inr (omega arith)

-- ---- what is not accepted is a refusal

-- an outcome: accepted, or one of these refusals
abbrev Either : {R : Type 0} → ℕ → (Answer → ℕ → Type 0) → (Answer → ℕ → R) → R → List ℕ → List ℕ → Type 0
Either answer Bad refusal r lent x = (answer ≡ 0) ⊎ ((a : Answer) × (p : ℕ) × Refused rank Bad a p × (r ≡ refusal a p) × (x ≡ lent))

pub run_refuses : {s lent : List ℕ} {r : Report} {x : List ℕ} → RunOutcome s lent r x → Either r.answer (RunBad s (length lent)) refusal r lent x
run_refuses (refused a p bad e f) = inr (a, p, bad, e, f)
run_refuses (accepted q c reads chosen none_bad e f) = inl (ap (λ (r : Report). r.answer) e)

pub ask_refuses : {s : List ℕ} {k : ℕ} {lent : List ℕ} {r : Shown} {x : List ℕ} → AskOutcome s k lent r x
    → Either r.answer (AskBad s k (length lent)) unshown r lent x
ask_refuses (refused a p bad e f) = inr (a, p, bad, e, f)
ask_refuses (accepted q route reads asked none_bad e f) = inl (ap (λ (r : Shown). r.answer) e)

pub strip_refuses : {s : List ℕ} {count : ℕ} {lent : List ℕ} {r : Report} {x : List ℕ} → StripOutcome s count lent r x
    → Either r.answer (StripBad s count (length lent)) refusal r lent x
strip_refuses (refused a p bad e f) = inr (a, p, bad, e, f)
strip_refuses (accepted q total h reads way none_bad e f) = inl (ap (λ (r : Report). r.answer) e)
