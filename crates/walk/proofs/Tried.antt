-- What the trial of the edges of a node says of its answer: one law for each way out of `trial`.
-- Assumes nothing.
use mathlib.Core.Bool.{Bool, true, false, true≢false}
use mathlib.Core.List.{List, []}
use mathlib.Core.Logic.{⊎_elim}
use mathlib.Core.Path.{◌≡◌, sym, ap, ◌∙◌}
use Rattle.std.specs.Prelude.{Some, None}
use Prim.Native.Nat.{ℕ, ◌+◌, ◌<◌, ◌≤◌}
use native.Mathlib.Omega.{arith}
use lib.ListN.{get_or}
use Rattle.graph.specs.Cut.{First}
use Rattle.graph.proofs.Splits.{lt_or_ge, tri, true_false}
use Rattle.flags.specs.Flag.{flag}
use Rattle.sets.specs.Whole.{whole, rows, Ahead}
use Rattle.sets.proofs.Rows.{row_at}
use Rattle.step.specs.Rest.{Rest, GoesOn}
use Rattle.step.proofs.Rest.{rest_new, rest_first}
use Rattle.walk.specs.Search.{Decides, Earliest}
use Rattle.walk.proofs.Lent.{back_as}
use Rattle.words.specs.Words.{listed}

-- no way goes on over a node below `from`
pub record FailedBelow (succ fits : List ℕ) (goal visited after v from : ℕ) : Type 0 where
  pub no_rest : (j : ℕ) → j < from → listed succ v j ≡ true → (l : List ℕ) → Rest succ fits goal visited after j l → ⊥

pub none_tried : {succ fits : List ℕ} {goal visited after v : ℕ} → FailedBelow succ fits goal visited after v 0
none_tried = record { no_rest = λ j h. absurd (omega (arith, h)) }

module _ (table : List (List ℕ)) {fits : List ℕ} {goal visited after v from : ℕ} (tried : FailedBelow (rows table) fits goal visited after v from) where
  abbrev succ : List ℕ
  succ = rows table

  abbrev row : ℕ
  row = whole (get_or table v [])

  in_row : (j : ℕ) → listed succ v j ≡ true → flag row j ≡ true
  in_row j s = ap (λ (x : ℕ). flag x j) (sym (row_at table v)) ∙ s

  -- nor over one where each from `from` on is visited
  over : {l : List ℕ} (j : ℕ) → listed succ v j ≡ true → (from ≤ j → flag visited j ≡ true) → Rest succ fits goal visited after j l → ⊥
  over j s seen t = ⊎_elim (λ p. tried.no_rest j p s _ t) (λ n. true_false (seen n) (rest_new succ fits goal t)) (lt_or_ge j from)

  pub all_tried : Ahead row visited from None → (l : List ℕ) → GoesOn succ fits goal visited after v l → ⊥
  all_tried none l (j, s, t) = over j s (λ n. none j n (in_row j s)) t

  module _ (k : ℕ) (low : Ahead row visited from (Some k)) where
    -- nor over one before the next
    before : {l : List ℕ} (j : ℕ) → j < k → listed succ v j ≡ true → Rest succ fits goal visited after j l → ⊥
    before j h s = over j s (λ n. low.4 j n h (in_row j s))

    module _ {way : Bool} {visited' after' : ℕ} {nodes nodes' : List ℕ}
        (answer : Decides (Rest succ fits goal) k way visited visited' after after' nodes nodes') where
      pub not_taken : (next : ℕ) → next ≡ k + 1 → way ≡ false → FailedBelow succ fits goal visited' after' v next
      not_taken next one z = rw (answer.back.on_route z, answer.back.marked z) (record { no_rest = failed })
        where
          failed : (j : ℕ) → j < next → listed succ v j ≡ true → (l : List ℕ) → Rest succ fits goal visited after j l → ⊥
          failed j h s l t = ⊎_elim (λ p. before j p s t) (λ n. let e : j ≡ k = omega (arith, h, n, one) in answer.none z l (rw e at t)) (lt_or_ge j k)

      pub taken : way ≡ true → Decides (GoesOn succ fits goal) v true visited visited' after after' nodes nodes'
      taken e = record {
        none = λ z. absurd (true≢false z);
        found = λ z. let r = answer.found e in (r.0, r.1, r.2, record { one = (k, ap (λ (x : ℕ). flag x k) (row_at table v) ∙ low.2, r.3.one); least = least r.0 r.3 });
        back = back_as e answer.back;
      }
        where
          least : (l : List ℕ) → Earliest (Rest succ fits goal visited after k) l → (s : List ℕ) → GoesOn succ fits goal visited after v s → First l s
          least l first s (j, h, t) =
              ⊎_elim (λ lt. absurd (before j lt h t)) (⊎_elim (λ e. first.least s (rw e at t)) (λ lt. rest_first succ fits goal l s lt first.one t)) (tri j k)
