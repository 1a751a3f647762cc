-- Answer 1: where the longest readable run of records ends.
-- Assumes nothing.
use mathlib.Core.Bool.{false, true}
use mathlib.Core.List.{List, [], ◌∷◌}
use mathlib.Core.Path.{◌∙◌, ◌≡◌, ap, refl, subst, sym}
use Prim.Native.Nat.{◌+◌, ◌≤◌, ℕ}
use native.Mathlib.Omega.{arith}
use lib.ListN.{drop, drop_of_length-le, length, length-drop}
use lib.Seq.{drop-drop}
use Rattle.request.specs.declared.Answer.TheVariants.{Unreadable}
use Rattle.request.specs.declared.Counts.{Counts}
use Rattle.request.specs.declared.Mark.TheVariants.{Nd, Ed, Ru, Or}
use Rattle.request.specs.Answers.{rank}
use Rattle.request.specs.Bad.{Bad, Readable, Unread, ended, records, unread}
use Rattle.request.specs.Decode.{raw_of}
use Rattle.request.specs.File.{Bytes}
use Rattle.request.specs.Layout.{counts_in, end_of, record_at}
use Rattle.request.specs.Raw.{Raw, file, laid, size}
use Rattle.graph.proofs.Splits.{true_false}
use Rattle.request.proofs.Faults.{bad_unread}
use Rattle.request.proofs.Marks.{two_of}
use Rattle.request.proofs.Recorded.{mark_of, record_fits, record_marked, record_within}
use Rattle.request.proofs.Laid.{laid-counts, laid_least, laid_rest, raw_laid}
use Rattle.request.proofs.Records.{records_length}
use Rattle.graph.specs.Refusal as refusal

abbrev end : List ℕ → ℕ
end s = end_of (counts_in s)

-- EN stands where the records counted end
pub ended_at : (s : List ℕ) (w : Raw) (rest : List ℕ) → s ≡ laid w (69 ∷ 78 ∷ rest)
    → (size w ≡ end s) × (record_at 69 78 2 s (end s) ≡ true) × (end s + 2 + length rest ≡ length s)
ended_at s w rest e =
    let q : size w ≡ end s = ap end_of (laid-counts s w (69 ∷ 78 ∷ rest) e refl) in
    let d : drop (end s) s ≡ 69 ∷ 78 ∷ rest = ap (λ (k : ℕ). drop k s) (sym q) ∙ laid_rest s w (69 ∷ 78 ∷ rest) e in
    let l : end s + 2 + length rest ≡ length s = omega (arith, length-drop (end s) s, ap length d) in
    (q, record_within 69 78 2 s (end s) (omega (arith, l)) ∙ rw d refl, l)

size_raw : (s : List ℕ) (cs : Counts) → size (raw_of s cs) ≡ end_of cs
size_raw s cs = rw (records_length s cs Nd, records_length s cs Ed, records_length s cs Ru, records_length s cs Or) refl

pub unread_stop : (s : List ℕ) → Bytes s → record_at 69 78 2 s (end s) ≡ false → Unread s (end s)
unread_stop s h r = record {
  readable = subst (Readable s) (size_raw s (counts_in s)) (records (raw_of s (counts_in s)) (drop (end s) s) (raw_laid s h));
  longest = λ q x. longest x;
  no_file = λ w e. true_false (ended_at s w [] e).1 r;
}
  where
    longest : {q : ℕ} → Readable s q → q ≤ end s
    longest (records w rest e) = laid_least s w rest e
    longest (ended w rest e) = true_false (ended_at s w rest e).1 r

end_here : (s : List ℕ) → record_at 69 78 2 s (end s) ≡ true → drop (end s) s ≡ 69 ∷ 78 ∷ drop (end s + 2) s
end_here s r =
    let m = mark_of 69 78 (drop (end s) s) (record_marked 69 78 2 s (end s) r) in
    two_of (drop (end s) s) (omega (arith, length-drop (end s) s, record_fits 69 78 2 s (end s) r)) ∙ rw (m.0, m.1, drop-drop 2 (end s) s) refl

pub unread_more : (s : List ℕ) → Bytes s → record_at 69 78 2 s (end s) ≡ true → (end s + 2 ≡ length s → ⊥) → Unread s (end s + 2)
unread_more s h r n = record {
  readable = subst (λ (k : ℕ). Readable s (k + 2)) (size_raw s (counts_in s))
      (ended (raw_of s (counts_in s)) (drop (end s + 2) s) (raw_laid s h ∙ ap (laid (raw_of s (counts_in s))) (end_here s r)));
  longest = λ q x. longest x;
  no_file = λ w e. let x = ended_at s w [] e in n (omega (arith, x.2));
}
  where
    longest : {q : ℕ} → Readable s q → q ≤ end s + 2
    longest (records w rest e) = omega (arith, laid_least s w rest e)
    longest (ended w rest e) = let x = ended_at s w rest e in omega (arith, x.0)

pub whole-file : (s : List ℕ) → Bytes s → record_at 69 78 2 s (end s) ≡ true → end s + 2 ≡ length s → s ≡ file (raw_of s (counts_in s))
whole-file s h r l =
    raw_laid s h ∙ ap (laid (raw_of s (counts_in s))) (end_here s r ∙ ap (λ (t : List ℕ). 69 ∷ 78 ∷ t) (drop_of_length-le s {i = end s + 2} (omega arith)))

pub refused_unread : (s : List ℕ) (p : ℕ) → Unread s p → refusal.Refused rank (Bad s) Unreadable p
refused_unread s p u = record { bad = unread u; lowest = λ a q b. omega arith; earliest = λ q b. (bad_unread s q b).longest p u.readable }
