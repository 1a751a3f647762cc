-- Files laid out as records, mark after mark: what the reader counts, and what it reads back.
-- Assumes nothing.
use mathlib.Core.Bool.{or-true, Bool, ◌||◌, false, true}
use mathlib.Core.List.{List, [], ◌∷◌, flat_map}
use mathlib.Core.Logic.{◌⊎◌, inl, inr, ⊎_elim}
use mathlib.Core.Path.{◌≡◌, refl, sym, ap, ◌∙◌}
use Prim.Native.Nat.{ℕ, ◌+◌, ◌*◌, ◌≤◌}
use native.Mathlib.Nat.{mul-le-mul_right, zero-mul}
use native.Mathlib.Omega.{arith}
use lib.ListN.{length, drop, get_or}
use Rattle.request.specs.declared.Counts.{Counts}
use Rattle.request.specs.declared.Mark.{Mark}
use Rattle.request.specs.declared.Mark.TheVariants.{Nd, Ed, Ru, Or}
use Rattle.request.specs.Decode.{Rec, counts_of_raw, list_of, raw_of, read_at, table}
use Rattle.request.specs.File.{Bytes}
use Rattle.request.specs.Layout.{all_marks, count_at, count_in, counted, counts_in, earlier, end_by, end_of, letters, marked, width}
use Rattle.request.specs.Raw.{Raw, laid, size}
use Rattle.graph.proofs.Splits.{true_false}
use Rattle.request.proofs.Records.{Least, as_many, more_marked, marked_by, row, row_count, row_least, row-mark, row_read, row_rest, row_same}

-- a list with these two bytes in front begins with one of the marks
abbrev begun : List Mark → ℕ → ℕ → Bool
begun [] x y = false
begun (m ∷ ms) x y = marked (letters m).0 (letters m).1 (x ∷ y ∷ []) || begun ms x y

abbrev pub begins : List Mark → List ℕ → Bool
begins ms t = begun ms (get_or t 0 0) (get_or t 1 0)

-- no mark is one of those before it
abbrev Apart : List Mark → Type 0
Apart [] = Unit {0}
Apart (m ∷ ms) = (begun ms (letters m).0 (letters m).1 ≡ false) × Apart ms

apart : Apart all_marks
apart = (refl, (refl, (refl, (refl, tt))))

-- records of another mark stand in front, or there are none
begins-row : (ms : List Mark) (m : Mark) (xs : List (Rec m)) (t : List ℕ) → begun ms (letters m).0 (letters m).1 ≡ false
    → (begins ms (row m xs t) ≡ false) ⊎ ((length xs ≡ 0) × (begins ms (row m xs t) ≡ begins ms t))
unfolding flat_map
begins-row ms m [] t a = inr (refl, refl)
begins-row ms m (x ∷ xs) t a = let b = row-mark m x xs t in inl (rw (b.0, b.1) a)

neither : (b c : Bool) → (b || c) ≡ false → (b ≡ false) × (c ≡ false)
neither true c e = true_false refl e
neither false c e = (refl, e)

end_with : (count : Mark → ℕ) (m : Mark) (ms : List Mark) → end_by count (m ∷ ms) ≡ end_by count ms + count m * width m
end_with count m [] = omega arith
end_with count m (k ∷ ms) = refl

module _ (s : List ℕ) where
  -- so many records of each of these marks are counted
  abbrev Counted : (Mark → ℕ) → List Mark → Type 0
  Counted count [] = Unit {0}
  Counted count (m ∷ ms) = (count m ≡ count_at m s (end_by count ms)) × Counted count ms

  counts_in_lem : Counted (counted (counts_in s)) all_marks
  unfolding count_in
  counts_in_lem = (refl, (refl, (refl, (refl, tt))))

  pub counts_are : (cs : Counts) → Counted (counted cs) all_marks → cs ≡ counts_in s
  unfolding count_in
  counts_are cs (v, (u, (q, (p, k)))) =
      let q' : cs.edges ≡ count_in s Ed = q ∙ rw p refl in
      let u' : cs.rules ≡ count_in s Ru = u ∙ rw (p, q') refl in
      let v' : cs.orders ≡ count_in s Or = v ∙ rw (p, q', u') refl in
      λ i. record { nodes = p i; edges = q' i; rules = u' i; orders = v' i }

  -- the records read at these counts, and then the rest
  abbrev read_by : (Mark → ℕ) → List Mark → List ℕ → List ℕ
  read_by count [] t = t
  read_by count (m ∷ ms) t = read_by count ms (row m (table (read_at m) (width m) s (end_by count ms) (count m)) t)

  read_again : Bytes s → (count : Mark → ℕ) (ms : List Mark) → Counted count ms → s ≡ read_by count ms (drop (end_by count ms) s)
  read_again h count [] k = refl
  read_again h count (m ∷ ms) (q, k) =
      rw (end_with count m ms) (read_again h count ms k ∙ ap (read_by count ms) (row_same m s (length s) (end_by count ms) (count m) h q))

  -- every file of bytes is the records that are counted, and the rest
  pub raw_laid : Bytes s → s ≡ laid (raw_of s (counts_in s)) (drop (end_of (counts_in s)) s)
  raw_laid h = read_again h (counted (counts_in s)) all_marks counts_in_lem

  -- ---- records laid out, mark after mark

  module _ (r : (m : Mark) → List (Rec m)) where
    abbrev laid_by : List Mark → List ℕ → List ℕ
    laid_by [] t = t
    laid_by (m ∷ ms) t = laid_by ms (row m (r m) t)

    abbrev many : Mark → ℕ
    many m = length (r m)

    rest_by : (ms : List Mark) (t : List ℕ) → s ≡ laid_by ms t → drop (end_by many ms) s ≡ t
    rest_by [] t e = e
    rest_by (m ∷ ms) t e = rw (end_with many m ms) (row_rest m s (r m) (end_by many ms) t (rest_by ms (row m (r m) t) e))

    read_by_lem : (m : Mark) (ms : List Mark) (t : List ℕ) → s ≡ laid_by (m ∷ ms) t → table (read_at m) (width m) s (end_by many ms) (many m) ≡ r m
    read_by_lem m ms t e = row_read m s (r m) (end_by many ms) t (rest_by ms (row m (r m) t) e)

    count_by : (ms : List Mark) (t : List ℕ) → Apart ms → s ≡ laid_by ms t → begins ms t ≡ false → Counted many ms
    count_by [] t a e n = tt
    count_by (m ∷ ms) t (a, later) e n =
        let b = neither (marked_by m t) (begins ms t) n in (
          row_count m s (r m) (end_by many ms) t (rest_by ms (row m (r m) t) e) b.0,
          count_by ms (row m (r m) t) later e (⊎_elim (λ x. x) (λ x. x.1 ∙ b.1) (begins-row ms m (r m) t a)),
        )

    -- the records counted are the longest that can be read: where more of a mark are counted than are laid, none of the later marks are laid
    least_by : (ms : List Mark) (t : List ℕ) → Apart ms → s ≡ laid_by ms t → (count : Mark → ℕ) → Counted count ms
        → (end_by many ms ≡ end_by count ms) ⊎ ((end_by many ms ≤ end_by count ms) × (begins ms t ≡ true))
    least_by [] t a e count k = inl refl
    least_by (m ∷ ms) t (a, later) e count (q, k) = rw (end_with many m ms, end_with count m ms) (go (least_by ms (row m (r m) t) later e count k))
      where
        Goal : Type 0
        Goal = (end_by many ms + many m * width m ≡ end_by count ms + count m * width m)
            ⊎ ((end_by many ms + many m * width m ≤ end_by count ms + count m * width m) × (begins (m ∷ ms) t ≡ true))

        same : end_by many ms ≡ end_by count ms → Least m t (many m) (count_at m s (end_by many ms)) → Goal
        same p (as_many u) = inl (rw (u, p, q) refl)
        same p (more_marked l b) =
            let h : many m ≤ count m = rw q (rw p at l) in
            inr (omega (arith, p, mul-le-mul_right (width m) h), rw b refl)

        fewer : end_by many ms ≤ end_by count ms → begins ms (row m (r m) t) ≡ true
            → (begins ms (row m (r m) t) ≡ false) ⊎ ((many m ≡ 0) × (begins ms (row m (r m) t) ≡ begins ms t)) → Goal
        fewer l b (inl x) = true_false b x
        fewer l b (inr (z, x)) = inr (rw z (omega (arith, zero-mul (width m))), rw (sym x ∙ b) (or-true (marked_by m t)))

        go : (end_by many ms ≡ end_by count ms) ⊎ ((end_by many ms ≤ end_by count ms) × (begins ms (row m (r m) t) ≡ true)) → Goal
        go (inl p) = same p (row_least m s (r m) (end_by many ms) t (rest_by ms (row m (r m) t) e))
        go (inr (l, b)) = fewer l b (begins-row ms m (r m) t a)

module _ (s : List ℕ) (w : Raw) (t : List ℕ) (e : s ≡ laid w t) where
  pub laid_rest : drop (size w) s ≡ t
  laid_rest = rest_by s (list_of w) all_marks t e

  pub laid_raw : raw_of s (counts_of_raw w) ≡ w
  laid_raw =
      let p = read_by_lem s (list_of w) Nd (earlier Nd) _ e in
      let q = read_by_lem s (list_of w) Ed (earlier Ed) _ e in
      let u = read_by_lem s (list_of w) Ru (earlier Ru) _ e in
      let v = read_by_lem s (list_of w) Or (earlier Or) t e in
      λ i. record { nodes = p i; edges = q i; rules = u i; orders = v i }

  pub laid-counts : begins all_marks t ≡ false → counts_of_raw w ≡ counts_in s
  laid-counts n = counts_are s (counts_of_raw w) (count_by s (list_of w) all_marks t apart e n)

  pub laid_least : size w ≤ end_of (counts_in s)
  laid_least = ⊎_elim (λ q. omega arith) (λ q. q.0) (least_by s (list_of w) all_marks t apart e (counted (counts_in s)) (counts_in_lem s))
