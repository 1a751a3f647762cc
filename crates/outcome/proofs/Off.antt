-- Strip: one law for each way out.
-- Assumes nothing.
use mathlib.Core.List.{List}
use mathlib.Core.Path.{◌∙◌, ◌≡◌, refl, subst, sym}
use Prim.Native.Nat.{◌-◌, ◌<◌, ◌≤◌, ℕ}
use native.Mathlib.Omega.{arith}
use lib.ListN.{length}
use Rattle.outcome.specs.declared.Report.{Report}
use Rattle.request.specs.declared.Answer.{Answer}
use Rattle.request.specs.declared.Answer.TheVariants.{NotLoose, ShortBuffer}
use Rattle.outcome.specs.Outcome.{StripBad, StripOutcome, accepted, in_file, not_loose, over, refusal, refused, too_short, with_graph}
use Rattle.graph.specs.Graph.{Graph}
use Rattle.graph.specs.Strip.{StripTo}
use Rattle.request.specs.Answers.{rank}
use Rattle.request.specs.File.{Request, bytes}
use Rattle.outcome.proofs.Reading.{reads_clean, reads_unique}
use Rattle.graph.proofs.Strip.{stripped_unique}
use Rattle.request.specs.Proper.{Reads}

module _ (s : List ℕ) (q : Request) (count : ℕ) (reads : Reads s q) (before : List ℕ) where
  pub strip_stuck : ((total : ℕ) (h : Graph) → ¬ StripTo count q.orders q.graph total h) → StripOutcome s count before (refusal NotLoose 0) before
  strip_stuck no_way = refused NotLoose 0 record { bad = not_loose q reads no_way; lowest = low; earliest = λ p b. omega arith } refl refl
    where
      low : (a : Answer) (p : ℕ) → StripBad s count (length before) a p → rank NotLoose ≤ rank a
      low a p (in_file b) = absurd (reads_clean reads b)
      low a p (not_loose k x y) = omega arith
      low a p (too_short k t h x y z) = omega arith

  module _ (total : ℕ) (h : Graph) (way : StripTo count q.orders q.graph total h) where
    -- the request and what is left of it are the only ones
    same : (P : Request → Graph → Type 0) (k : Request) (t : ℕ) (j : Graph) → Reads s k → StripTo count k.orders k.graph t j → P k j → P q h
    same P k t j x y p =
        let e : k ≡ q = reads_unique x reads in
        let z : StripTo count q.orders q.graph t j = subst (λ (r : Request). StripTo count r.orders r.graph t j) e y in
        subst (P q) (stripped_unique z.stripped way.stripped (z.left ∙ sym way.left)).0 (subst (λ (r : Request). P r j) e p)

    not_stuck : (k : Request) → Reads s k → ((t : ℕ) (j : Graph) → ¬ StripTo count k.orders k.graph t j) → ⊥
    not_stuck k x y = y total h (subst (λ (r : Request). StripTo count r.orders r.graph total h) (reads_unique reads x) way)

    pub strip_short : length before < length (bytes (with_graph q h)) → StripOutcome s count before (refusal ShortBuffer 0) before
    strip_short l = refused ShortBuffer 0 record { bad = too_short q total h reads way l; lowest = low; earliest = λ p b. omega arith } refl refl
      where
        low : (a : Answer) (p : ℕ) → StripBad s count (length before) a p → rank ShortBuffer ≤ rank a
        low a p (in_file b) = absurd (reads_clean reads b)
        low a p (not_loose k x y) = absurd (not_stuck k x y)
        low a p (too_short k t j x y z) = omega arith

    pub strip_accepted : length (bytes (with_graph q h)) ≤ length before → (r : Report) (after : List ℕ)
        → r ≡ record { answer = 0; place = 0; fences = length q.graph.nodes - count; weight = total; length = length (bytes (with_graph q h)) }
        → after ≡ over before (bytes (with_graph q h))
        → StripOutcome s count before r after
    strip_accepted l r after e f = accepted q total h reads way none_bad e f
      where
        none_bad : (a : Answer) (p : ℕ) → ¬ StripBad s count (length before) a p
        none_bad a p (in_file b) = reads_clean reads b
        none_bad a p (not_loose k x y) = not_stuck k x y
        none_bad a p (too_short k t j x y z) =
            let w : length before < length (bytes (with_graph q h)) = same (λ r g. length before < length (bytes (with_graph r g))) k t j x y z in omega arith
