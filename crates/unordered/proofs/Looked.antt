-- Looking through the pairs of one node, from the last down.
-- Assumes nothing.
use mathlib.Core.List.{List}
use mathlib.Core.Logic.{⊎_elim}
use mathlib.Core.Path.{◌≡◌, refl, sym, ◌∙◌, subst}
use Prim.Native.Nat.{ℕ, ◌<◌, ◌≤◌}
use native.Mathlib.Omega.{arith}
use lib.ListN.{length, get_or}
use Rattle.std.specs.Prelude.{Option, Some, None}
use Rattle.graph.proofs.Splits.{tri}
use Rattle.hope.specs.Hope.{Dominated}
use Rattle.sets.specs.Whole.{Inside}
use Rattle.unordered.specs.Pairs.{nodes, priors, up_to, LastOf, Chained}
use Rattle.unordered.specs.declared.pairs.Pair.{Pair}

-- of the pairs that have the node y, those after pair `rest` have no word within w
pub record Looked (pairs : List Pair) (words : List ℕ) (y w : ℕ) (rest : Option ℕ) : Type 0 where
  pub high : up_to rest ≤ length pairs
  pub here : (j : ℕ) → rest ≡ Some j → get_or (nodes pairs) j 0 ≡ y
  pub past : (k : ℕ) → k < length pairs → get_or (nodes pairs) k 0 ≡ y → up_to rest ≤ k → Inside (get_or words k 0) w → ⊥

module _ {pairs : List Pair} {words : List ℕ} {y w : ℕ} where
  pub looked_start : {rest : Option ℕ} → LastOf (nodes pairs) y (length pairs) rest → Looked pairs words y w rest
  looked_start l = record { high = l.high; here = l.here; past = λ k a e b i. absurd (omega (arith, l.all k a e, b)) }

  pub looked_at : {rest : Option ℕ} {j : ℕ} → Looked pairs words y w rest → rest ≡ Some j → j < length pairs
  looked_at l is = let m = rw is at l in omega (arith, m.high)

  -- the pair before in the chain
  pub looked_on : {last : List (Option ℕ)} {rest next : Option ℕ} {j : ℕ} → Chained pairs last → Looked pairs words y w rest → rest ≡ Some j
      → (Inside (get_or words j 0) w → ⊥) → next ≡ get_or (priors pairs) j None → (up_to next < up_to rest) × Looked pairs words y w next
  looked_on {j = j} c l is out e =
      let m = rw is at l in
      let at = m.here j refl in
      let row = c.before j (looked_at l is) in
      rw (e, is) (
        omega (arith, row.high),
        record {
          high = omega (arith, row.high, m.high);
          here = λ i q. row.here i q ∙ at;
          past = λ k a q b i. ⊎_elim (λ u. absurd (omega (arith, row.all k u (q ∙ sym at), b)))
              (⊎_elim (λ p. out (subst (λ (x : ℕ). Inside (get_or words x 0) w) p i)) (λ u. m.past k a q (omega (arith, u)) i)) (tri k j);
        },
      )

  pub looked_found : {rest : Option ℕ} {j : ℕ} → Looked pairs words y w rest → rest ≡ Some j → Inside (get_or words j 0) w → Dominated (nodes pairs) words (length pairs) y w
  looked_found {j = j} l is i = (j, looked_at l is, l.here j is, i)

  pub looked_none : {rest : Option ℕ} → Looked pairs words y w rest → rest ≡ None → Dominated (nodes pairs) words (length pairs) y w → ⊥
  looked_none l is (k, a, q, i) = let m = rw is at l in m.past k a q (omega arith) i
