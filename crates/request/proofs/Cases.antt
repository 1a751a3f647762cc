-- The checks one after the other: what follows where one fails and where it passes.
-- Assumes nothing.
use mathlib.Core.Bool.{Bool, false, or-false, true}
use mathlib.Core.Logic.{⊎_elim}
use mathlib.Core.List.{List, []}
use mathlib.Core.Path.{◌∙◌, ◌≡◌, ap, ap₂, refl, sym}
use Prim.Native.Nat.{◌+◌, ◌<◌, ◌≤◌, suc, ℕ}
use native.Mathlib.Numerals.{add-one}
use native.Mathlib.Omega.{arith}
use lib.ListN.{drop, get_or}
use lib.Seq.{drop-cons}
use borrow.Author.Rules.{rules}
use borrow.Author.Tests.{eq-eqb, le-leb, le-ltb, lt-leb, lt-ltb, ne_eqb}
use Rattle.request.specs.declared.Answer.{Answer}
use Rattle.request.specs.declared.Check.{Check}
use Rattle.request.specs.declared.Check.TheVariants.{Many}
use Rattle.request.specs.declared.Mark.TheVariants.{Nd}
use Rattle.request.specs.declared.Counts.{Counts}
use Rattle.request.specs.declared.Refusal.{Refusal}
use Rattle.std.specs.Prelude.{MatchOption, None, Ok, Option, Result, Some}
use Rattle.request.specs.Answers.{refused}
use Rattle.request.specs.Earliest.{earliest}
use Rattle.graph.proofs.Splits.{lt_or_ge}
use Rattle.request.proofs.Earliest.{earliest_is, earliest_none}
use Rattle.request.specs.Tables.{FirstFailing, SureTo, all_checks, answer_to, checked, count_for, fails_at, listed, start_for}

-- `search`'s list where the code tests what a definition tests
pub ruleset tests = (rules, or-false, lt-ltb, le-ltb, le-leb, lt-leb, eq-eqb, ne_eqb)

-- the first bad one of a kind, or none
pub listed_bad : (answer : Answer) (start i n : ℕ) (later : Result Counts Refusal) → i < n → listed answer start i n later ≡ refused answer (start + i)
unfolding listed
listed_bad answer start i n later l = simp (lt-ltb _ _ l)

pub listed_good : (answer : Answer) (start i n : ℕ) (later : Result Counts Refusal) → n ≤ i → listed answer start i n later ≡ later
unfolding listed
listed_good answer start i n later l = simp (le-ltb _ _ l)

pub checks_done : (s : List ℕ) (cs : Counts) → checked s cs [] ≡ Ok cs
unfolding checked
checks_done s cs = refl

-- check number k
abbrev pub check_at : ℕ → Check
check_at k = get_or all_checks k (Many Nd)

-- one turn, where the checks before number k have passed
module _ (s : List ℕ) (cs : Counts) (k : ℕ) (h : k < 9) (v : checked s cs all_checks ≡ checked s cs (drop k all_checks)) where
  abbrev check : Check
  check = check_at k

  here : {i : ℕ} → earliest (fails_at s cs check) (count_for cs check) ≡ i
      → checked s cs all_checks ≡ listed (answer_to check) (start_for cs check) i (count_for cs check) (checked s cs (drop (suc k) all_checks))
  unfolding checked
  here e = v ∙ ap (checked s cs) (drop-cons all_checks k (Many Nd) h) ∙ rw e

  pub turn_fails : {i : ℕ} → FirstFailing s cs check (Some i) → {a : Answer} {p : ℕ} → a ≡ answer_to check → p ≡ start_for cs check
      → refused a (p + i) ≡ checked s cs all_checks
  turn_fails {i} f q u = ap₂ (λ (x : Answer) (n : ℕ). refused x (n + i)) q u ∙ sym (here f.0 ∙ listed_bad _ _ _ _ _ f.1)

  pub turn_passes : FirstFailing s cs check None → checked s cs all_checks ≡ checked s cs (drop (k + 1) all_checks)
  turn_passes f = rw add-one (here f ∙ listed_good _ _ _ _ _ (omega arith))

-- looking from a place on before which a check fails nowhere
pub first_fails : (s : List ℕ) (cs : Counts) (c : Check) (r : Option ℕ) {sure n : ℕ} → SureTo cs c sure → n ≡ count_for cs c
    → MatchOption r ((k : ℕ) → sure ≤ k → k < n → fails_at s cs c k ≡ false)
    (λ i. (sure ≤ i) × (i < n) × (fails_at s cs c i ≡ true) × ((k : ℕ) → sure ≤ k → k < i → fails_at s cs c k ≡ false))
    → FirstFailing s cs c r
first_fails s cs c r {sure} {n} front e found = go r found
  where
    test : ℕ → Bool
    test k = fails_at s cs c k

    passed : (m k : ℕ) → ((j : ℕ) → sure ≤ j → j < m → test j ≡ false) → k < m → test k ≡ false
    passed m k f l = ⊎_elim (λ h. front.1 s k h) (λ h. f k h l) (lt_or_ge k sure)

    go : (o : Option ℕ) → MatchOption o ((k : ℕ) → sure ≤ k → k < n → test k ≡ false)
        (λ i. (sure ≤ i) × (i < n) × (test i ≡ true) × ((k : ℕ) → sure ≤ k → k < i → test k ≡ false)) → FirstFailing s cs c o
    go None f = earliest_none test (count_for cs c) (λ k l. passed n k f (omega (arith, e)))
    go (Some i) (a, b, t, f) = (earliest_is test (count_for cs c) i (omega (arith, e)) (λ k l. passed i k f l) t, omega (arith, e))
