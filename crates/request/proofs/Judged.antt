-- What the reader says of a file of bytes is so: it gives the answer that document 01's table gives, or no answer applies.
-- Assumes nothing.
use mathlib.Core.Bool.{Bool, false, true}
use mathlib.Core.List.{List, [], ◌∷◌}
use mathlib.Core.Logic.{◌⊎◌, inl, inr, ⊎_elim}
use mathlib.Core.Path.{◌∙◌, ◌≡◌, refl, subst, sym}
use Prim.Native.Nat.{◌+◌, ◌<◌, ◌≤◌, ℕ}
use native.Mathlib.Decide.{ℕ_discrete}
use native.Mathlib.Omega.{arith}
use lib.ListN.{drop, get_or, length}
use Rattle.request.specs.declared.Answer.{Answer}
use Rattle.request.specs.declared.Answer.TheVariants.{BadEdge, BadNode, BadOrder, BadRule, NoFenceRules, NoRoom, NoSuchOrder, NotLoose, ShortBuffer, TooMany, Unreadable}
use Rattle.request.specs.declared.Check.{Check}
use Rattle.request.specs.declared.Check.TheVariants.{Fenceless, Many, Wrong}
use Rattle.request.specs.declared.Counts.{Counts}
use Rattle.request.specs.declared.Mark.{Mark}
use Rattle.request.specs.declared.Mark.TheVariants.{Ed, Nd, Or, Ru}
use Rattle.request.specs.declared.Refusal.{Refusal}
use Rattle.std.specs.Prelude.{Result, Ok, Err}
use Rattle.request.specs.Answers.{refused}
use Rattle.request.specs.Answers.{rank}
use Rattle.request.specs.Bad.{Bad, Listed, Unfenced, Unread, WrongEdge, WrongNode, WrongOrder, WrongRule, no_node, no_rule}
use Rattle.request.specs.Decode.{raw_of, records_in}
use Rattle.request.specs.File.{Bytes}
use Rattle.request.specs.Layout.{counted, counts_in, end_of, layout_of, record_at}
use Rattle.request.specs.Earliest.{earliest}
use Rattle.request.specs.Raw.{Raw, file}
use Rattle.request.specs.Tables.{all_checks, answer_to, checked, count_for, fails_at, listed, most, no_fences, reading_of, start_for}
use Rattle.graph.proofs.Says.{Says, says_le, says_not, says_or}
use Rattle.request.proofs.Faults.{Clean, Fault, bad_fault, fault_bad}
use Rattle.request.proofs.Readings.{end_more, end_stop, end_whole, read_1, read_2}
use Rattle.request.proofs.Records.{records_length}
use Rattle.request.proofs.Stage.{Stage, passes, refuses, stage}
use Rattle.request.proofs.Tests.{says_edge, says_leads, says_node, says_order, says_rule}
use Rattle.request.proofs.Unread.{refused_unread, unread_more, unread_stop, whole-file}
use Rattle.graph.specs.Refusal as refusal

abbrev pub Judged : List ℕ → Result Counts Refusal → Type 0
Judged s (Ok cs) = (cs ≡ counts_in s) × (s ≡ file (raw_of s cs)) × Clean (raw_of s cs)
Judged s (Err e) = refusal.Refused rank (Bad s) e.answer e.place

module _ (s : List ℕ) (cs : Counts) (C : cs ≡ counts_in s) (F : s ≡ file (raw_of s cs)) where
  abbrev w : Raw
  w = raw_of s cs

  refuse : (a : Answer) (p : ℕ) → reading_of s ≡ refused a p → Fault w a p
      → ((b : Answer) (q : ℕ) → Fault w b q → rank a ≤ rank b) → ((q : ℕ) → Fault w a q → p ≤ q) → Judged s (reading_of s)
  refuse a p e b l f =
      subst (Judged s) (sym e) (record { bad = fault_bad s w F a p b; lowest = λ x q y. l x q (bad_fault s w F y); earliest = λ q y. f q (bad_fault s w F y) })

  -- ---- what the checks look for, in document 01's words

  abbrev WrongRecord : Mark → ℕ → Type 0
  WrongRecord Nd i = WrongNode (get_or w.nodes i no_node)
  WrongRecord Ed i = WrongEdge cs.nodes w.edges i
  WrongRecord Ru i = WrongRule (get_or w.rules i no_rule)
  WrongRecord Or i = WrongOrder cs.nodes w.orders i

  abbrev Fails : Check → ℕ → Type 0
  Fails (Many m) i = most m ≤ i
  Fails (Wrong m) i = WrongRecord m i
  Fails Fenceless i = Unfenced w

  abbrev Found : Check → ℕ → Type 0
  Found c p = Listed (start_for cs c) (count_for cs c) (Fails c) p

  says : (c : Check) (i : ℕ) → i < count_for cs c → Says (fails_at s cs c i) (Fails c i)
  unfolding no_fences
  says (Many m) i h = says_le (most m) i
  says (Wrong Nd) i h = says_node s cs i h
  says (Wrong Ed) i h = says_edge s cs i h
  says (Wrong Ru) i h = says_rule s cs i h
  says (Wrong Or) i h = says_order s cs i h
  says Fenceless i h = says_or (says_not (says_leads s cs 3 2)) (says_not (says_leads s cs 2 3))

  len : (m : Mark) → length (records_in s cs m) ≡ counted cs m
  len m = records_length s cs m

  -- what a check finds is a fault with its answer
  fault : (c : Check) (p : ℕ) → Found c p → Fault w (answer_to c) p
  fault (Many Nd) p x = inl (rw (len Nd) x)
  fault (Many Ed) p x = inr (inl (rw (len Nd, len Ed) x))
  fault (Many Ru) p x = inr (inr (inl (rw (len Nd, len Ed, len Ru) x)))
  fault (Many Or) p x = inr (inr (inr (rw (len Nd, len Ed, len Ru, len Or) x)))
  fault (Wrong Nd) p x = rw (len Nd) x
  fault (Wrong Ed) p x = rw (len Nd, len Ed) x
  fault (Wrong Ru) p x = rw (len Nd, len Ed, len Ru) x
  fault (Wrong Or) p x = rw (len Nd, len Ed, len Ru, len Or) x
  fault Fenceless p (i, h, b, u) = (b, omega arith)

  -- one of these checks finds the answer at p
  abbrev Among : List Check → Answer → ℕ → Type 0
  Among [] a p = ⊥
  Among (c ∷ l) a p = ((rank (answer_to c) ≡ rank a) × Found c p) ⊎ Among l a p

  -- every fault is found
  faults : (a : Answer) (p : ℕ) → Fault w a p → Among all_checks a p
  faults Unreadable p x = absurd x
  faults TooMany p (inl x) = inl (refl, rw (len Nd) at x)
  faults TooMany p (inr (inl x)) = inr (inl (refl, rw (len Nd, len Ed) at x))
  faults TooMany p (inr (inr (inl x))) = inr (inr (inl (refl, rw (len Nd, len Ed, len Ru) at x)))
  faults TooMany p (inr (inr (inr x))) = inr (inr (inr (inl (refl, rw (len Nd, len Ed, len Ru, len Or) at x))))
  faults BadNode p x = inr (inr (inr (inr (inl (refl, rw (len Nd) at x)))))
  faults BadEdge p x = inr (inr (inr (inr (inr (inl (refl, rw (len Nd, len Ed) at x))))))
  faults BadRule p x = inr (inr (inr (inr (inr (inr (inl (refl, rw (len Nd, len Ed, len Ru) at x)))))))
  faults BadOrder p x = inr (inr (inr (inr (inr (inr (inr (inl (refl, rw (len Nd, len Ed, len Ru, len Or) at x))))))))
  faults NoFenceRules p (b, e) = inr (inr (inr (inr (inr (inr (inr (inr (inl (refl, (0, omega arith, b, omega arith))))))))))
  faults NoSuchOrder p x = absurd x
  faults NoRoom p x = absurd x
  faults NotLoose p x = absurd x
  faults ShortBuffer p x = absurd x

  -- ---- the checks stand by rank, and within it by place

  abbrev Link : Check → Check → Type 0
  Link c d = (rank (answer_to c) < rank (answer_to d)) ⊎ ((rank (answer_to c) ≡ rank (answer_to d)) × (start_for cs c + count_for cs c ≤ start_for cs d))

  abbrev Chain : List Check → Type 0
  Chain [] = Unit {0}
  Chain (c ∷ []) = Unit {0}
  Chain (c ∷ (d ∷ l)) = Link c d × Chain (d ∷ l)

  chained : Chain all_checks
  chained =
      let up : Chain (drop 3 all_checks) = (inl (omega arith), (inl (omega arith), (inl (omega arith), (inl (omega arith), (inl (omega arith), tt))))) in
      (inr (refl, omega arith), (inr (refl, omega arith), (inr (refl, omega arith), up)))

  -- what comes later has a higher rank, or the same and a later place
  abbrev Later : ℕ → ℕ → Answer → ℕ → Type 0
  Later r start a p = (r < rank a) ⊎ ((r ≡ rank a) × (start ≤ p))

  join : (c d : Check) → Link c d → (a : Answer) (p : ℕ) → Later (rank (answer_to d)) (start_for cs d) a p
      → Later (rank (answer_to c)) (start_for cs c + count_for cs c) a p
  join c d (inl x) a p (inl y) = inl (omega arith)
  join c d (inl x) a p (inr (y, z)) = inl (omega arith)
  join c d (inr (x, u)) a p (inl y) = inl (omega arith)
  join c d (inr (x, u)) a p (inr (y, z)) = inr (omega arith, omega arith)

  later : (c : Check) (l : List Check) → Chain (c ∷ l) → (a : Answer) (p : ℕ) → Among l a p → Later (rank (answer_to c)) (start_for cs c + count_for cs c) a p
  later c [] k a p x = absurd x
  later c (d ∷ l) (k, ks) a p (inl (e, (i, h, b, u))) = join c d k a p (inr (e, omega arith))
  later c (d ∷ l) (k, ks) a p (inr x) = join c d k a p (from (later d l ks a p x))
    where
      from : Later (rank (answer_to d)) (start_for cs d + count_for cs d) a p → Later (rank (answer_to d)) (start_for cs d) a p
      from (inl y) = inl y
      from (inr (y, z)) = inr (y, omega arith)

  rest : (c : Check) (l : List Check) → Chain (c ∷ l) → Chain l
  rest c [] k = tt
  rest c (d ∷ l) (k, ks) = ks

  judge : (l : List Check) → Chain l → ((a : Answer) (p : ℕ) → Fault w a p → Among l a p) → reading_of s ≡ checked s cs l → Judged s (reading_of s)
  unfolding checked
  judge [] k f e = subst (Judged s) (sym e) (C, F, f)
  judge (c ∷ l) k f e = go (stage (answer_to c) (start_for cs c) (count_for cs c) (fails_at s cs c) (Fails c) (checked s cs l) (says c)) (judge l (rest c l k))
    where
      low : (b : Answer) (q : ℕ) → Among (c ∷ l) b q → rank (answer_to c) ≤ rank b
      low b q (inl (r, x)) = omega arith
      low b q (inr x) = ⊎_elim (λ y. omega arith) (λ y. omega (arith, y.0)) (later c l k b q x)

      early : (p : ℕ) → p < start_for cs c + count_for cs c → ((x : ℕ) → Found c x → p ≤ x) → (q : ℕ) → Among (c ∷ l) (answer_to c) q → p ≤ q
      early p h g q (inl (r, x)) = g q x
      early p h g q (inr x) = ⊎_elim (λ y. absurd (let z : ⊥ = omega arith in z)) (λ y. omega (arith, y.1)) (later c l k (answer_to c) q x)

      before : (p : ℕ) → Found c p → p < start_for cs c + count_for cs c
      before p (i, h, b, u) = omega arith

      passed : ((i : ℕ) → i < count_for cs c → Fails c i → ⊥) → (a : Answer) (p : ℕ) → Among (c ∷ l) a p → Among l a p
      passed g a p (inl (r, (i, h, b, u))) = absurd (g i h b)
      passed g a p (inr x) = x

      go : Stage (answer_to c) (start_for cs c) (count_for cs c) (Fails c) (checked s cs l)
          (listed (answer_to c) (start_for cs c) (earliest (fails_at s cs c) (count_for cs c)) (count_for cs c) (checked s cs l))
          → (((a : Answer) (p : ℕ) → Fault w a p → Among l a p) → reading_of s ≡ checked s cs l → Judged s (reading_of s)) → Judged s (reading_of s)
      go (refuses p r x g) next =
          refuse (answer_to c) p (e ∙ r) (fault c p x) (λ b q y. low b q (f b q y)) (λ q y. early p (before p x) g q (f (answer_to c) q y))
      go (passes r g) next = next (λ a p y. passed g a p (f a p y)) (e ∙ r)

pub judged : (s : List ℕ) → Bytes s → Judged s (reading_of s)
judged s h = go (record_at 69 78 2 s (end_of (counts_in s))) refl (ℕ_discrete (end_of (counts_in s) + 2) (length s))
  where
    unread : (p : ℕ) → layout_of s ≡ refused Unreadable p → Unread s p → Judged s (reading_of s)
    unread p e u = subst (Judged s) (sym (read_1 s e)) (refused_unread s p u)

    go : (c : Bool) → record_at 69 78 2 s (end_of (counts_in s)) ≡ c → Dec (end_of (counts_in s) + 2 ≡ length s) → Judged s (reading_of s)
    go true r (yes l) =
        let C = counts_in s in let F = whole-file s h r l in
        judge s C refl F all_checks (chained s C refl F) (faults s C refl F) (read_2 s C (end_whole s refl refl r l))
    go true r (no l) = unread (end_of (counts_in s) + 2) (end_more s refl refl r l refl) (unread_more s h r l)
    go false r d = unread (end_of (counts_in s)) (end_stop s refl refl r) (unread_stop s h r)
