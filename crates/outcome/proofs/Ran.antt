-- Run: one law for each way out.
-- Assumes nothing.
use mathlib.Core.List.{List}
use mathlib.Core.Logic.{◌⊎◌}
use mathlib.Core.Path.{◌≡◌, refl, subst}
use Prim.Native.Nat.{◌+◌, ◌<◌, ◌≤◌, ℕ}
use native.Mathlib.Omega.{arith}
use lib.ListN.{length}
use Rattle.outcome.specs.declared.Report.{Report}
use Rattle.request.specs.declared.Answer.{Answer}
use Rattle.request.specs.declared.Answer.TheVariants.{NoRoom, ShortBuffer}
use Rattle.outcome.specs.Outcome.{RunBad, RunOutcome, accepted, fenced_file, in_file, no_room, over, refusal, refused, too_short}
use Rattle.graph.specs.Cut.{ChosenCut, weight}
use Rattle.graph.specs.Limits.{most_edges, most_nodes}
use Rattle.request.specs.Answers.{rank}
use Rattle.request.specs.File.{Request}
use Rattle.outcome.proofs.Reading.{reads_clean, reads_unique}
use Rattle.graph.proofs.Unique.{best_unique}
use Rattle.request.specs.Proper.{Reads}

-- with the fences the graph passes a limit
abbrev pub Crowded : Request → List ℕ → Type 0
Crowded q c = (most_nodes < length q.graph.nodes + length c) ⊎ (most_edges < length q.graph.edges + length c)

module _ (s : List ℕ) (q : Request) (c : List ℕ) (reads : Reads s q) (chosen : ChosenCut q.graph q.rules q.orders c) where
  -- the request and the cut are the only ones
  same : (P : Request → List ℕ → Type 0) (k : Request) (d : List ℕ) → Reads s k → ChosenCut k.graph k.rules k.orders d → P k d → P q c
  same P k d x y p =
      let e : k ≡ q = reads_unique x reads in
      let f : d ≡ c = best_unique (subst (λ (r : Request). ChosenCut r.graph r.rules r.orders d) e y) chosen in
      subst (P q) f (subst (λ (r : Request). P r d) e p)

  module _ (before : List ℕ) where
    pub run_crowded : Crowded q c → RunOutcome s before (refusal NoRoom 0) before
    run_crowded h = refused NoRoom 0 record { bad = no_room q c reads chosen h; lowest = low; earliest = λ p b. omega arith } refl refl
      where
        low : (a : Answer) (p : ℕ) → RunBad s (length before) a p → rank NoRoom ≤ rank a
        low a p (in_file b) = absurd (reads_clean reads b)
        low a p (no_room k d x y z) = omega arith
        low a p (too_short k d x y z) = omega arith

    module _ (roomy : Crowded q c → ⊥) where
      pub run_short : length before < length (fenced_file q c) → RunOutcome s before (refusal ShortBuffer 0) before
      run_short h = refused ShortBuffer 0 record { bad = too_short q c reads chosen h; lowest = low; earliest = λ p b. omega arith } refl refl
        where
          low : (a : Answer) (p : ℕ) → RunBad s (length before) a p → rank ShortBuffer ≤ rank a
          low a p (in_file b) = absurd (reads_clean reads b)
          low a p (no_room k d x y z) = absurd (roomy (same Crowded k d x y z))
          low a p (too_short k d x y z) = omega arith

      pub run_accepted : length (fenced_file q c) ≤ length before → (r : Report) (after : List ℕ)
          → r ≡ record { answer = 0; place = 0; fences = length c; weight = weight q.graph c; length = length (fenced_file q c) }
          → after ≡ over before (fenced_file q c) → RunOutcome s before r after
      run_accepted h r after e f = accepted q c reads chosen none_bad e f
        where
          none_bad : (a : Answer) (p : ℕ) → ¬ RunBad s (length before) a p
          none_bad a p (in_file b) = reads_clean reads b
          none_bad a p (no_room k d x y z) = roomy (same Crowded k d x y z)
          none_bad a p (too_short k d x y z) =
              let w : length before < length (fenced_file q c) = same (λ r l. length before < length (fenced_file r l)) k d x y z in omega arith
