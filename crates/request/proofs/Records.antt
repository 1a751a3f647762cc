-- The records of one mark in a row: how many are counted, and that they are read as they were written.
-- Assumes nothing.
use mathlib.Core.Bool.{Bool, true, false}
use mathlib.Core.List.{List, [], ◌∷◌, ◌++◌, flat_map, append_assoc}
use mathlib.Core.Path.{◌≡◌, refl, sym, ap, ◌∙◌}
use Prim.Native.Nat.{ℕ, zero, suc, ◌+◌, ◌-◌, ◌*◌, ◌<◌, ◌≤◌}
use native.Mathlib.Nat.{zero-mul, suc-mul}
use native.Mathlib.Omega.{arith}
use lib.ListN.{length, get_or, drop, length-append, length-drop}
use lib.Seq.{drop-drop, drop_at}
use borrow.Author.Tests.{eq-eqb}
use Rattle.request.specs.declared.Counts.{Counts}
use Rattle.request.specs.declared.Mark.{Mark}
use Rattle.request.specs.Decode.{Rec, bytes_of, read_at, records_in, table}
use Rattle.request.specs.File.{Bytes}
use Rattle.request.specs.Layout.{count_at, counted, in_row, letters, marked, start_of, width}
use Rattle.graph.proofs.Splits.{true_false}
use Rattle.request.proofs.Marks.{coding, stands_at}
use Rattle.request.proofs.Recorded.{record_marked, record_within, row_more, row_stop}

-- the mark m stands in front
abbrev pub marked_by : Mark → List ℕ → Bool
marked_by m t = marked (letters m).0 (letters m).1 t

-- records of a mark, and then the rest
abbrev pub row : (m : Mark) → List (Rec m) → List ℕ → List ℕ
row m xs t = flat_map (bytes_of m) xs ++ t

-- of n records as many are counted; or more, where what follows them begins with their mark
pub data Least (m : Mark) (t : List ℕ) (n count : ℕ) : Type 0 where
  as_many : n ≡ count → Least m t n count
  more_marked : n ≤ count → marked_by m t ≡ true → Least m t n count

module _ (m : Mark) where
  abbrev counts : List ℕ → ℕ → ℕ → ℕ
  counts s f at = in_row (letters m).0 (letters m).1 (width m) s f at

  split : (x : Rec m) (xs : List (Rec m)) (t : List ℕ) → row m (x ∷ xs) t ≡ bytes_of m x ++ row m xs t
  unfolding flat_map
  split x xs t = append_assoc (bytes_of m x) (flat_map (bytes_of m) xs) t

  none : (t : List ℕ) → row m [] t ≡ t
  unfolding flat_map
  none t = refl

  -- the mark in front of a row
  pub row-mark : (x : Rec m) (xs : List (Rec m)) (t : List ℕ) → (get_or (row m (x ∷ xs) t) 0 0 ≡ (letters m).0) × (get_or (row m (x ∷ xs) t) 1 0 ≡ (letters m).1)
  row-mark x xs t = rw (split x xs t) ((coding m).mark x (row m xs t))

  -- its first record stands there and is read; then come the others
  first_of : (s : List ℕ) (at : ℕ) (x : Rec m) (xs : List (Rec m)) (t : List ℕ) → drop at s ≡ row m (x ∷ xs) t
      → (stands_at m s at ≡ true) × (read_at m s at ≡ x) × (drop (at + width m) s ≡ row m xs t)
  first_of s at x xs t e =
      let d = e ∙ split x xs t in
      let long = (coding m).long x in
      let b = (coding m).mark x (row m xs t) in
      let fits : at + width m ≤ length s = omega (arith, length-drop at s, ap length d, length-append (bytes_of m x) (row m xs t), (coding m).wide) in (
        record_within (letters m).0 (letters m).1 (width m) s at fits ∙ rw (d, eq-eqb _ _ b.0, eq-eqb _ _ b.1) refl,
        (coding m).back s at x (row m xs t) d,
        sym (drop-drop (width m) at s) ∙ ap (drop (width m)) d ∙ drop_at (bytes_of m x) (row m xs t) (width m) long,
      )

  -- the records of a row are read back
  pub row_read : (s : List ℕ) (xs : List (Rec m)) (at : ℕ) (t : List ℕ) → drop at s ≡ row m xs t → table (read_at m) (width m) s at (length xs) ≡ xs
  unfolding table
  row_read s [] at t e = refl
  row_read s (x ∷ xs) at t e =
      let f = first_of s at x xs t e in
      let p : read_at m s at ≡ x = f.1 in
      let q : table (read_at m) (width m) s (at + width m) (length xs) ≡ xs = row_read s xs (at + width m) t f.2 in
      cc

  pub row_rest : (s : List ℕ) (xs : List (Rec m)) (at : ℕ) (t : List ℕ) → drop at s ≡ row m xs t → drop (at + length xs * width m) s ≡ t
  row_rest s [] at t e = let q : at + 0 * width m ≡ at = omega (arith, zero-mul (width m)) in ap (λ (k : ℕ). drop k s) q ∙ e ∙ none t
  row_rest s (x ∷ xs) at t e =
      let q : at + suc (length xs) * width m ≡ at + width m + length xs * width m = omega (arith, suc-mul (length xs) (width m)) in
      ap (λ (k : ℕ). drop k s) q ∙ row_rest s xs (at + width m) t (first_of s at x xs t e).2

  -- what is counted is written as it was read
  pub row_same : (s : List ℕ) (f at n : ℕ) → Bytes s → n ≡ counts s f at → drop at s ≡ row m (table (read_at m) (width m) s at n) (drop (at + n * width m) s)
  unfolding table flat_map in_row
  row_same s f at n h e = go f at n (stands_at m s at) refl e
    where
      nothing : (at n : ℕ) → n ≡ 0 → drop at s ≡ row m (table (read_at m) (width m) s at n) (drop (at + n * width m) s)
      nothing at n e = let q : at ≡ at + 0 * width m = omega (arith, zero-mul (width m)) in rw e (ap (λ (k : ℕ). drop k s) q)

      more : (at n k : ℕ) → n ≡ suc k → stands_at m s at ≡ true
          → drop (at + width m) s ≡ row m (table (read_at m) (width m) s (at + width m) k) (drop (at + width m + k * width m) s)
          → drop at s ≡ row m (table (read_at m) (width m) s at n) (drop (at + n * width m) s)
      more at n k e r rec =
          let xs = table (read_at m) (width m) s (at + width m) k in
          let q : at + width m + k * width m ≡ at + suc k * width m = omega (arith, suc-mul k (width m)) in
          rw e
          ((coding m).same s at h r
          ∙ ap (λ (l : List ℕ). bytes_of m (read_at m s at) ++ l) (rec ∙ ap (λ (i : ℕ). row m xs (drop i s)) q)
          ∙ sym (split (read_at m s at) xs (drop (at + suc k * width m) s)))

      go : (f at n : ℕ) (c : Bool) → stands_at m s at ≡ c → n ≡ counts s f at → drop at s ≡ row m (table (read_at m) (width m) s at n) (drop (at + n * width m) s)
      go zero at n c r e = nothing at n e
      go (suc f) at n false r e = nothing at n (e ∙ row_stop (letters m).0 (letters m).1 (width m) s (suc f) at r)
      go (suc f) at n true r e =
          more at n (counts s f (at + width m)) (e ∙ rw r refl) r (go f (at + width m) (counts s f (at + width m)) (stands_at m s (at + width m)) refl refl)

  few : (xs : List (Rec m)) → length xs ≤ length (flat_map (bytes_of m) xs)
  unfolding flat_map
  few [] = omega arith
  few (x ∷ xs) = omega (arith, length-append (bytes_of m x) (flat_map (bytes_of m) xs), (coding m).long x, (coding m).wide, few xs)

  -- no fewer are counted; more only where the rest begins with the mark
  pub row_least : (s : List ℕ) (xs : List (Rec m)) (at : ℕ) (t : List ℕ) → drop at s ≡ row m xs t → Least m t (length xs) (count_at m s at)
  row_least s xs at t e = go xs at (length s) e (omega (arith, few xs, length-drop at s, ap length e, length-append (flat_map (bytes_of m) xs) t))
    where
      last : (at f : ℕ) (c : Bool) → drop at s ≡ t → stands_at m s at ≡ c → Least m t 0 (counts s f at)
      last at f false e r = as_many (sym (row_stop (letters m).0 (letters m).1 (width m) s f at r))
      last at f true e r = more_marked (omega arith) (ap (marked_by m) (sym e) ∙ record_marked (letters m).0 (letters m).1 (width m) s at r)

      on : {n k c : ℕ} → c ≡ suc k → Least m t n k → Least m t (suc n) c
      on q (as_many u) = as_many (omega arith)
      on q (more_marked l b) = more_marked (omega arith) b

      go : (xs : List (Rec m)) (at f : ℕ) → drop at s ≡ row m xs t → length xs ≤ f → Least m t (length xs) (counts s f at)
      go [] at f e h = last at f (stands_at m s at) (e ∙ none t) refl
      go (x ∷ xs) at f e h =
          let o = first_of s at x xs t e in
          on (row_more (letters m).0 (letters m).1 (width m) s f at (omega arith) o.0) (go xs (at + width m) (f - 1) o.2 (omega arith))

  -- as many are counted, where the rest begins with another mark
  pub row_count : (s : List ℕ) (xs : List (Rec m)) (at : ℕ) (t : List ℕ) → drop at s ≡ row m xs t → marked_by m t ≡ false → length xs ≡ count_at m s at
  row_count s xs at t e n = go (row_least s xs at t e)
    where
      go : Least m t (length xs) (count_at m s at) → length xs ≡ count_at m s at
      go (as_many u) = u
      go (more_marked l b) = true_false b n

table-length : {X : Type 0} (dec : List ℕ → ℕ → X) (z : ℕ) (s : List ℕ) (at n : ℕ) → length (table dec z s at n) ≡ n
unfolding table
table-length dec z s at zero = refl
table-length dec z s at (suc n) = ap suc (table-length dec z s (at + z) n)

table_at : {X : Type 0} (dec : List ℕ → ℕ → X) (z : ℕ) (s : List ℕ) (d : X) (at n i : ℕ) → i < n → get_or (table dec z s at n) i d ≡ dec s (at + i * z)
unfolding table
table_at dec z s d at zero i h = absurd (omega arith)
table_at dec z s d at (suc n) zero h = let q : at ≡ at + 0 * z = omega (arith, zero-mul z) in ap (dec s) q
table_at dec z s d at (suc n) (suc i) h =
    let q : at + z + i * z ≡ at + suc i * z = omega (arith, suc-mul i z) in
    table_at dec z s d (at + z) n i (omega arith) ∙ ap (dec s) q

-- how many records of a mark a file is read as, and which
module _ (s : List ℕ) (cs : Counts) (m : Mark) where
  pub records_length : length (records_in s cs m) ≡ counted cs m
  records_length = table-length (read_at m) (width m) s (start_of cs m) (counted cs m)

  pub record_read : (d : Rec m) (i : ℕ) → i < counted cs m → get_or (records_in s cs m) i d ≡ read_at m s (start_of cs m + i * width m)
  record_read d i h = table_at (read_at m) (width m) s d (start_of cs m) (counted cs m) i h
