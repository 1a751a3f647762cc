-- Writing one list of bytes after another.
-- Assumes nothing.
use mathlib.Core.List.{List, [], ◌++◌, ◌∷◌, append_assoc, append-nil, flat_map}
use mathlib.Core.Path.{◌∙◌, ◌≡◌, ap, refl, sym}
use Prim.Native.Nat.{◌*◌, ◌+◌, ◌^◌, ◌<◌, ◌≤◌, ℕ, zero, suc}
use Rattle.std.specs.Int.{to_le_bytes}
use Rattle.std.proofs.lemmas.Nat.{le_bytes_2}
use Rattle.std.proofs.Common.{w16}
use Rattle.std.proofs.Math.Nat.{mul-le-mul_right}
use Rattle.std.proofs.Math.Seq.{take-length}
use native.Mathlib.Nat.{zero-mul, suc-mul}
use native.Mathlib.Numerals.{add-one}
use native.Mathlib.Omega.{arith}
use lib.ListN.{drop, get_or, length, length-append, length-drop, set, take, take-append-drop}
use lib.Seq.{drop-append-add, drop-drop, length-take-le, sets-eq, take_at, take-suc}
use Rattle.graph.specs.declared.Node.{Node}
use Rattle.graph.specs.Value.{labels}
use Rattle.request.specs.File.{bytes, edge_bytes, node_bytes, order_bytes, rule_bytes, two}
use Rattle.writing.specs.Write.{Written, size_of}
use Rattle.graph.proofs.Value.{node_total}
use Rattle.request.proofs.Answered.{bytes-length}
use Rattle.graph.specs.declared.Graph as Value
use Rattle.request.specs.Value.{request_in}

pub written-length : {o o' : List ℕ} {at r : ℕ} {xs : List ℕ} → Written o o' at r xs → length o' ≡ length o
written-length {o} {o'} {at} {r} {xs} w =
    ap length w.bytes ∙ simp (length-append, length-take-le at o (omega (arith, w.next, w.room)), length-drop) (omega (arith, w.next, w.room))

pub written_then : {o₀ o₁ o₂ : List ℕ} {a b c : ℕ} {xs ys : List ℕ} → Written o₀ o₁ a b xs → Written o₁ o₂ b c ys → Written o₀ o₂ a c (xs ++ ys)
written_then {o₀} {o₁} {o₂} {a} {b} {c} {xs} {ys} p q =
    let ha : length (take a o₀) ≡ a = length-take-le a o₀ (omega (arith, p.next, p.room)) in
    let hp : length (take a o₀ ++ xs) ≡ b = length-append (take a o₀) xs ∙ omega (arith, p.next) in
    let t : take b o₁ ≡ take a o₀ ++ xs = ap (take b) p.bytes ∙ take_at (take a o₀ ++ xs) (drop b o₀) b hp in
    let e : c ≡ length (take a o₀ ++ xs) + length ys = omega (arith, q.next) in
    let d : drop c o₁ ≡ drop c o₀ =
    ap (drop c) p.bytes ∙ ap (λ (n : ℕ). drop n ((take a o₀ ++ xs) ++ drop b o₀)) e ∙ drop-append-add (take a o₀ ++ xs) (drop b o₀) (length ys)
    ∙ drop-drop (length ys) b o₀ ∙ ap (λ (n : ℕ). drop n o₀) (sym q.next) in
    record {
      next = omega (arith, p.next, q.next, length-append xs ys);
      room = omega (arith, q.room, written-length p);
      bytes =
          q.bytes ∙ ap (λ (l : List ℕ). (l ++ ys) ++ drop c o₁) t ∙ ap (λ (l : List ℕ). ((take a o₀ ++ xs) ++ ys) ++ l) d
          ∙ ap (λ (l : List ℕ). l ++ drop c o₀) (append_assoc (take a o₀) xs ys);
    }

-- the low byte first
pub low_bytes : (n : ℕ) → n < 2 ^ 16 → to_le_bytes w16 n ≡ two n
low_bytes n h = le_bytes_2 (two n) n refl small (omega arith)
  where
    small : (i : ℕ) → get_or (two n) i 0 < 256
    small zero = omega arith
    small (suc zero) = omega (arith, h)
    small (suc (suc i)) = omega arith

-- m bytes and n more
pub put_then : {o₀ o₁ o₂ : List ℕ} {a b c : ℕ} {xs ys : List ℕ} (m n : ℕ) → (b ≡ a + m) × Written o₀ o₁ a b xs → (c ≡ b + n) × Written o₁ o₂ b c ys
    → (c ≡ a + (m + n)) × Written o₀ o₂ a c (xs ++ ys)
put_then m n (p, v) (q, w) = (omega arith, written_then v w)

pub written-two : (o : List ℕ) (at x y : ℕ) → at + 2 ≤ length o → Written o (set (set o at x) (at + 1) y) at (at + 2) (x ∷ y ∷ [])
written-two o at x y h = rw add-one record { next = refl; room = h; bytes = sets-eq (x ∷ y ∷ []) o at h }

pub written_as : {o o' : List ℕ} {at r : ℕ} {xs ys : List ℕ} → ys ≡ xs → Written o o' at r xs → Written o o' at r ys
written_as e w = rw e w

-- ---- records of one mark

module _ {A : Type 0} (f : A → List ℕ) where
  flat_snoc : (l : List A) (x : A) → flat_map f (l ++ (x ∷ [])) ≡ flat_map f l ++ f x
  unfolding flat_map
  flat_snoc [] x = append-nil (f x)
  flat_snoc (y ∷ l) x = ap (λ (r : List ℕ). f y ++ r) (flat_snoc l x) ∙ sym (append_assoc (f y) (flat_map f l) (f x))

-- the first i records are written, of z bytes each, from `at` on; the next one goes to p
pub record Putting {A : Type 0} (f : A → List ℕ) (z at : ℕ) (l : List A) (before out : List ℕ) (p i : ℕ) : Type 0 where
  pub upto : i ≤ length l
  pub next : p ≡ at + i * z
  pub same : length out ≡ length before
  pub written : Written before out at p (flat_map f (take i l))

module _ {A : Type 0} {f : A → List ℕ} {z at : ℕ} {l : List A} {before : List ℕ} where
  pub putting_none : at ≤ length before → Putting f z at l before before at 0
  unfolding flat_map
  putting_none h =
      let e = ap (λ (l : List ℕ). l ++ drop at before) (append-nil (take at before)) ∙ take-append-drop at before in
      let none : Written before before at at [] = record { next = omega arith; room = h; bytes = sym e } in
      record { upto = omega arith; next = omega (arith, zero-mul z); same = refl; written = none }

  module _ {out : List ℕ} {p i : ℕ} (y : Putting f z at l before out p i) where
    -- there is room for one more
    pub putting_room : at + length l * z ≤ length before → i < length l → p + z ≤ length out
    putting_room h k = let m : (i + 1) * z ≤ length l * z = mul-le-mul_right z (omega (arith, k)) in omega (arith, m, y.next, y.same, h, suc-mul i z)

    pub putting_more : {out' : List ℕ} {p' : ℕ} (d : A) → i < length l → p' ≡ p + z → Written out out' p p' (f (get_or l i d))
        → Putting f z at l before out' p' (i + 1)
    putting_more d few e w = record {
      upto = omega (arith, few);
      next = omega (arith, e, y.next, suc-mul i z);
      same = written-length w ∙ y.same;
      written = rw (add-one, take-suc l i d few, flat_snoc f (take i l) (get_or l i d)) (written_then y.written w);
    }

    pub putting_all : length l ≤ i → (p ≡ at + length l * z) × Written before out at p (flat_map f l)
    putting_all h =
        let e : i ≡ length l = omega (arith, h, y.upto) in
        (y.next ∙ ap (λ (n : ℕ). at + n * z) e, rw (e, take-length l) at y.written)

abbrev pub label_bytes : Node → List ℕ
label_bytes n = node_bytes n.label

pub flat_labels : (ns : List Node) → flat_map node_bytes (labels ns) ≡ flat_map label_bytes ns
unfolding flat_map
flat_labels [] = refl
flat_labels (n ∷ ns) = ap (λ (r : List ℕ). node_bytes n.label ++ r) (flat_labels ns)

pub request-whole : (g : Value.Graph) {o₀ o₁ o₂ o₃ o₄ o₅ : List ℕ} {b c d e f : ℕ}
    → Written o₀ o₁ 0 b (flat_map label_bytes g.nodes.items)
    → Written o₁ o₂ b c (flat_map edge_bytes g.edges.items)
    → Written o₂ o₃ c d (flat_map rule_bytes g.rules.items)
    → Written o₃ o₄ d e (flat_map order_bytes g.orders.items)
    → Written o₄ o₅ e f (69 ∷ 78 ∷ []) → Written o₀ o₅ 0 f (bytes (request_in g))
unfolding bytes
request-whole g p q r s t = written_then (rw (flat_labels g.nodes.items) p) (written_then q (written_then r (written_then s t)))

-- ---- how many bytes that is

pub bytes-size : (g : Value.Graph) → length (bytes (request_in g)) ≡ size_of g
bytes-size g = bytes-length (request_in g) ∙ omega (arith, node_total g)
