-- The records of each mark, there and back.
-- Assumes nothing.
use mathlib.Core.Bool.{Bool, true}
use mathlib.Core.List.{List, [], ◌∷◌, ◌++◌}
use mathlib.Core.Path.{◌≡◌, refl, sym, ap, ◌∙◌}
use Prim.Native.Nat.{ℕ, ◌+◌, ◌*◌, ◌/◌, ◌%◌, ◌<◌, ◌≤◌}
use native.Mathlib.Omega.{arith}
use lib.ListN.{length, get_or, drop, length-drop}
use lib.Seq.{get_or-drop, drop-drop}
use Rattle.request.specs.declared.Mark.{Mark}
use Rattle.request.specs.declared.Mark.TheVariants.{Nd, Ed, Ru, Or}
use Rattle.request.specs.Decode.{Rec, bytes_of, read_at}
use Rattle.request.specs.File.{Bytes, edge_bytes, order_bytes, two}
use Rattle.request.specs.Layout.{letters, record_at, width}
use Rattle.request.specs.Raw.{raw_node_bytes, raw_rule_bytes}
use Rattle.request.specs.Tables.{two_at}
use Rattle.request.proofs.Recorded.{mark_of, record_fits, record_marked}

-- a record of the mark stands at the offset
abbrev pub stands_at : Mark → List ℕ → ℕ → Bool
stands_at m s at = record_at (letters m).0 (letters m).1 (width m) s at

pub record Coding (m : Mark) : Type 0 where
  pub wide : 2 ≤ width m
  pub long : (x : Rec m) → length (bytes_of m x) ≡ width m
  pub mark : (x : Rec m) (t : List ℕ) → (get_or (bytes_of m x ++ t) 0 0 ≡ (letters m).0) × (get_or (bytes_of m x ++ t) 1 0 ≡ (letters m).1)
  -- what was written is read
  pub back : (s : List ℕ) (at : ℕ) (x : Rec m) (t : List ℕ) → drop at s ≡ bytes_of m x ++ t → read_at m s at ≡ x
  -- what was read is written
  pub same : (s : List ℕ) (at : ℕ) → Bytes s → stands_at m s at ≡ true → drop at s ≡ bytes_of m (read_at m s at) ++ drop (at + width m) s

low : (x y : ℕ) → x < 256 → (x + 256 * y) % 256 ≡ x
low x y h = omega arith

high : (x y : ℕ) → x < 256 → (x + 256 * y) / 256 ≡ y
high x y h = omega arith

again : (n : ℕ) → n % 256 + 256 * (n / 256) ≡ n
again n = omega arith

pub two_of : (t : List ℕ) → 2 ≤ length t → t ≡ get_or t 0 0 ∷ get_or t 1 0 ∷ drop 2 t
two_of [] h = absurd (omega arith)
two_of (a ∷ []) h = absurd (omega arith)
two_of (a ∷ b ∷ t) h = refl

four : (t : List ℕ) → 4 ≤ length t → t ≡ get_or t 0 0 ∷ get_or t 1 0 ∷ get_or t 2 0 ∷ get_or t 3 0 ∷ drop 4 t
four [] h = absurd (omega arith)
four (a ∷ []) h = absurd (omega arith)
four (a ∷ b ∷ t) h = ap (λ (l : List ℕ). a ∷ b ∷ l) (two_of t (omega arith))

six : (t : List ℕ) → 6 ≤ length t → t ≡ get_or t 0 0 ∷ get_or t 1 0 ∷ get_or t 2 0 ∷ get_or t 3 0 ∷ get_or t 4 0 ∷ get_or t 5 0 ∷ drop 6 t
six [] h = absurd (omega arith)
six (a ∷ []) h = absurd (omega arith)
six (a ∷ b ∷ t) h = ap (λ (l : List ℕ). a ∷ b ∷ l) (four t (omega arith))

eight : (t : List ℕ) → 8 ≤ length t
    → t ≡ get_or t 0 0 ∷ get_or t 1 0 ∷ get_or t 2 0 ∷ get_or t 3 0 ∷ get_or t 4 0 ∷ get_or t 5 0 ∷ get_or t 6 0 ∷ get_or t 7 0 ∷ drop 8 t
eight [] h = absurd (omega arith)
eight (a ∷ []) h = absurd (omega arith)
eight (a ∷ b ∷ t) h = ap (λ (l : List ℕ). a ∷ b ∷ l) (six t (omega arith))

-- the bytes of a record that stands at an offset
module _ (m : Mark) (s : List ℕ) (at : ℕ) (r : stands_at m s at ≡ true) where
  size-at : width m ≤ length (drop at s)
  size-at = omega (arith, length-drop at s, record_fits (letters m).0 (letters m).1 (width m) s at r)

  marks_at : (get_or (drop at s) 0 0 ≡ (letters m).0) × (get_or (drop at s) 1 0 ≡ (letters m).1)
  marks_at = mark_of (letters m).0 (letters m).1 (drop at s) (record_marked (letters m).0 (letters m).1 (width m) s at r)

get : (s : List ℕ) (at k : ℕ) (t : List ℕ) → drop at s ≡ t → get_or s (at + k) 0 ≡ get_or t k 0
get s at k t e = sym (get_or-drop at s k 0) ∙ ap (λ (l : List ℕ). get_or l k 0) e

get_two : (s : List ℕ) (at k m : ℕ) (t : List ℕ) → m ≡ k + 1 → drop at s ≡ t → two_at s (at + k) ≡ get_or t k 0 + 256 * get_or t m 0
get_two s at k m t q e =
    let p : at + k + 1 ≡ at + m = omega arith in
    let u : get_or s (at + k + 1) 0 ≡ get_or t m 0 = ap (λ (i : ℕ). get_or s i 0) p ∙ get s at m t e in
    let v : get_or s (at + k) 0 ≡ get_or t k 0 = get s at k t e in
    rw (u, v) refl

-- a number that was written is read
two_back : (s : List ℕ) (at k m n : ℕ) (t : List ℕ) → m ≡ k + 1 → drop at s ≡ t → get_or t k 0 ≡ n % 256 → get_or t m 0 ≡ n / 256 → two_at s (at + k) ≡ n
two_back s at k m n t q e u v = get_two s at k m t q e ∙ rw (u, v) (again n)

-- the two bytes of a number that was read
two_at_lem : (s : List ℕ) (at k m : ℕ) (t : List ℕ) → m ≡ k + 1 → Bytes s → two (two_at s (at + k)) ++ t ≡ get_or (drop at s) k 0 ∷ get_or (drop at s) m 0 ∷ t
two_at_lem s at k m t q h =
    let e = get_two s at k m (drop at s) q refl in
    let l : get_or (drop at s) k 0 < 256 = rw (get_or-drop at s k 0) (h (at + k)) in
    rw (e, low (get_or (drop at s) k 0) (get_or (drop at s) m 0) l, high (get_or (drop at s) k 0) (get_or (drop at s) m 0) l) refl

pub coding : (m : Mark) → Coding m
coding Nd = record {
  wide = omega arith;
  long = λ x. refl;
  mark = λ x t. (refl, refl);
  back = λ s at x t e.
      let p : get_or s (at + 2) 0 ≡ x.kind = get s at 2 (raw_node_bytes x ++ t) e in
      let q : get_or s (at + 3) 0 ≡ x.address = get s at 3 (raw_node_bytes x ++ t) e in
      λ i. record { kind = p i; address = q i };
  same = λ s at h r.
      let m = marks_at Nd s at r in
      four (drop at s) (size-at Nd s at r) ∙ rw (m.0, m.1, get_or-drop at s 2 0, get_or-drop at s 3 0, drop-drop 4 at s) refl;
}
coding Ru = record {
  wide = omega arith;
  long = λ x. refl;
  mark = λ x t. (refl, refl);
  back = λ s at x t e.
      let p : get_or s (at + 2) 0 ≡ x.left = get s at 2 (raw_rule_bytes x ++ t) e in
      let q : get_or s (at + 3) 0 ≡ x.left_variable = get s at 3 (raw_rule_bytes x ++ t) e in
      let u : get_or s (at + 4) 0 ≡ x.right = get s at 4 (raw_rule_bytes x ++ t) e in
      let v : get_or s (at + 5) 0 ≡ x.right_variable = get s at 5 (raw_rule_bytes x ++ t) e in
      λ i. record { left = p i; left_variable = q i; right = u i; right_variable = v i };
  same = λ s at h r.
      let m = marks_at Ru s at r in
      six (drop at s) (size-at Ru s at r)
      ∙ rw (m.0, m.1, get_or-drop at s 2 0, get_or-drop at s 3 0, get_or-drop at s 4 0, get_or-drop at s 5 0, drop-drop 6 at s) refl;
}
coding Ed = record {
  wide = omega arith;
  long = λ x. refl;
  mark = λ x t. (refl, refl);
  back = λ s at x t e.
      let p = two_back s at 2 3 x.from (edge_bytes x ++ t) (omega arith) e refl refl in
      let q = two_back s at 4 5 x.to (edge_bytes x ++ t) (omega arith) e refl refl in
      let u = two_back s at 6 7 x.weight (edge_bytes x ++ t) (omega arith) e refl refl in
      λ i. record { from = p i; to = q i; weight = u i };
  same = λ s at h r.
      let m = marks_at Ed s at r in
      let u = drop (at + 8) s in
      let v = get_or (drop at s) 6 0 ∷ get_or (drop at s) 7 0 ∷ u in
      eight (drop at s) (size-at Ed s at r)
      ∙ sym
      (ap (λ (l : List ℕ). 69 ∷ 68 ∷ (two (two_at s (at + 2)) ++ (two (two_at s (at + 4)) ++ l))) (two_at_lem s at 6 7 u (omega arith) h)
      ∙ ap (λ (l : List ℕ). 69 ∷ 68 ∷ (two (two_at s (at + 2)) ++ l)) (two_at_lem s at 4 5 v (omega arith) h)
      ∙ ap (λ (l : List ℕ). 69 ∷ 68 ∷ l) (two_at_lem s at 2 3 (get_or (drop at s) 4 0 ∷ get_or (drop at s) 5 0 ∷ v) (omega arith) h)
      ∙ rw (m.0, m.1, drop-drop 8 at s) refl);
}
coding Or = record {
  wide = omega arith;
  long = λ x. refl;
  mark = λ x t. (refl, refl);
  back = λ s at x t e.
      let p = two_back s at 2 3 x.first (order_bytes x ++ t) (omega arith) e refl refl in
      let q = two_back s at 4 5 x.second (order_bytes x ++ t) (omega arith) e refl refl in
      λ i. record { first = p i; second = q i };
  same = λ s at h r.
      let m = marks_at Or s at r in
      let u = drop (at + 6) s in
      six (drop at s) (size-at Or s at r)
      ∙ sym
      (ap (λ (l : List ℕ). 79 ∷ 82 ∷ (two (two_at s (at + 2)) ++ l)) (two_at_lem s at 4 5 u (omega arith) h)
      ∙ ap (λ (l : List ℕ). 79 ∷ 82 ∷ l) (two_at_lem s at 2 3 (get_or (drop at s) 4 0 ∷ get_or (drop at s) 5 0 ∷ u) (omega arith) h)
      ∙ rw (m.0, m.1, drop-drop 6 at s) refl);
}
