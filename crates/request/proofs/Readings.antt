-- Answer 1 and the whole reading, case by case.
-- Assumes nothing.
use mathlib.Core.Bool.{false, true}
use mathlib.Core.List.{List}
use mathlib.Core.Path.{◌∙◌, ◌≡◌, ap, refl}
use Prim.Native.Nat.{◌*◌, ◌+◌, ℕ}
use native.Mathlib.Omega.{arith}
use lib.ListN.{length}
use borrow.Author.Tests.{eq-eqb, ne_eqb}
use Rattle.request.specs.declared.Answer.TheVariants.{Unreadable}
use Rattle.request.specs.declared.Counts.{Counts}
use Rattle.request.specs.declared.Refusal.{Refusal}
use Rattle.std.specs.Prelude.{Ok, Err}
use Rattle.request.specs.Answers.{refused}
use Rattle.request.specs.declared.Mark.TheVariants.{Nd, Ed, Ru, Or}
use Rattle.request.specs.Layout.{count_at, counts_in, end_check, end_of, layout_of, record_at}
use Rattle.request.proofs.Laid.{counts_are}
use Rattle.request.specs.Tables.{all_checks, checked, reading_of}

-- the rows of the marks, each beginning where the one before ends
pub rows : (s : List ℕ) {n a e b r c o d : ℕ} → n ≡ count_at Nd s 0 → a ≡ 0 + n * 4 → e ≡ count_at Ed s a → b ≡ a + e * 8
    → r ≡ count_at Ru s b → c ≡ b + r * 6 → o ≡ count_at Or s c → d ≡ c + o * 6
    → ((record { nodes = n; edges = e; rules = r; orders = o }) ≡ counts_in s)
    × (d ≡ end_of (record { nodes = n; edges = e; rules = r; orders = o }))
rows s {n} {a} {e} {b} {r} {c} {o} {d} n' a' e' b' r' c' o' d' = (
  counts_are s _ (o' ∙ ap (count_at Or s) (omega arith), (r' ∙ ap (count_at Ru s) (omega arith), (e' ∙ ap (count_at Ed s) (omega arith), (n', tt)))),
  omega arith,
)

-- by what stands where the records that are counted end
module _ (s : List ℕ) {cs : Counts} {end : ℕ} (k : cs ≡ counts_in s) (q : end ≡ end_of cs) where
  at-end : end ≡ end_of (counts_in s)
  at-end = q ∙ ap end_of k

  pub end_whole : record_at 69 78 2 s end ≡ true → end + 2 ≡ length s → layout_of s ≡ Ok cs
  unfolding end_check
  end_whole e l = rw (k, ← at-end) (simp (e, eq-eqb _ _ l))

  pub end_more : {p : ℕ} → record_at 69 78 2 s end ≡ true → (end + 2 ≡ length s → ⊥) → p ≡ end + 2 → layout_of s ≡ refused Unreadable p
  unfolding end_check
  end_more e l q = rw (q, ← at-end) (simp (e, ne_eqb _ _ l))

  pub end_stop : record_at 69 78 2 s end ≡ false → layout_of s ≡ refused Unreadable end
  unfolding end_check
  end_stop e = rw (← at-end) (simp e)

module _ (s : List ℕ) where
  pub read_1 : {e : Refusal} → layout_of s ≡ Err e → reading_of s ≡ Err e
  unfolding reading_of
  read_1 q = rw q refl

  pub read_2 : (cs : Counts) → layout_of s ≡ Ok cs → reading_of s ≡ checked s cs all_checks
  unfolding reading_of
  read_2 cs w = rw w refl
