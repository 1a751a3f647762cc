-- What sets of edges weigh: one edge more, a part of a set, and weak duality. The first flag of a set is that of edge n.
-- Assumes nothing.
use mathlib.Core.Bool.{Bool, true, false, true≢false, false≢true}
use mathlib.Core.List.{List, [], ◌∷◌}
use mathlib.Core.Path.{◌≡◌, refl, ap}
use Prim.Native.Nat.{ℕ, zero, suc, ◌+◌, ◌*◌, ◌<◌, ◌≤◌}
use native.Mathlib.Omega.{arith}
use lib.ListN.{length, get_or, set, replicate}
use Rattle.lightest.specs.Sets.{Has, PartOf}
use Rattle.graph.specs.Cut.{total}
use Rattle.graph.specs.Value.{rising}

-- the empty set has no edge, and no list
pub replicate_at : {A : Type 0} (d : A) (n e : ℕ) → get_or (replicate n d) e d ≡ d
replicate_at d zero e = refl
replicate_at d (suc n) zero = refl
replicate_at d (suc n) (suc e) = replicate_at d n e

pub none_has : {s : List Bool} (n : ℕ) → s ≡ replicate n false → (e : ℕ) → get_or s e false ≡ false
none_has n z e = rw z (replicate_at false n e)

pub none_rising : (n m : ℕ) → rising n (replicate m false) ≡ []
none_rising n zero = refl
none_rising n (suc m) = none_rising (suc n) m

-- less at every edge: a lighter weight
total_down : (v w : ℕ → ℕ) (xs : List ℕ) → ((e : ℕ) → v e ≤ w e) → total v xs ≤ total w xs
total_down v w [] f = omega arith
total_down v w (x ∷ xs) f = omega (arith, f x, total_down v w xs f)

module _ (w : ℕ → ℕ) where
  -- one edge more
  pub total-set : (n : ℕ) (s : List Bool) (e i : ℕ) → i ≡ n + e → e < length s → get_or s e false ≡ false
      → total w (rising n (set s e true)) ≡ total w (rising n s) + w i
  total-set n [] e i q l h = absurd (omega arith)
  total-set n (true ∷ s) zero i q l h = absurd (true≢false h)
  total-set n (false ∷ s) zero i q l h = let p : i ≡ n = omega arith in omega (arith, ap w p)
  total-set n (true ∷ s) (suc e) i q l h = omega (arith, total-set (suc n) s e i (omega arith) (omega arith) h)
  total-set n (false ∷ s) (suc e) i q l h = total-set (suc n) s e i (omega arith) (omega arith) h

  -- a set weighs at most so much for each flag
  pub total-most : (n : ℕ) (t : List Bool) → ((e : ℕ) → w e < 65536) → total w (rising n t) ≤ length t * 65535
  total-most n [] f = omega arith
  total-most n (true ∷ t) f = omega (arith, f n, total-most (suc n) t f)
  total-most n (false ∷ t) f = omega (arith, total-most (suc n) t f)

  -- what is unspent, v, weighs no more than the rest of a larger set
  pub total_unspent : (v : ℕ → ℕ) (n : ℕ) (s t : List Bool) → length s ≡ length t → PartOf s t → ((e i : ℕ) → i ≡ n + e → Has s e → v i ≡ 0)
      → ((e : ℕ) → v e ≤ w e)
      → total w (rising n s) + total v (rising n t) ≤ total w (rising n t)
  total_unspent v n [] [] l f z d = omega arith
  total_unspent v n [] (y ∷ t) l f z d = absurd (omega arith)
  total_unspent v n (x ∷ s) [] l f z d = absurd (omega arith)
  total_unspent v n (true ∷ s) (false ∷ t) l f z d = absurd (false≢true (f 0 refl))
  total_unspent v n (true ∷ s) (true ∷ t) l f z d =
      omega (arith, z 0 n (omega arith) refl, total_unspent v (suc n) s t (omega arith) (λ e. f (suc e)) (λ e i q h. z (suc e) i (omega arith) h) d)
  total_unspent v n (false ∷ s) (true ∷ t) l f z d =
      omega (arith, d n, total_unspent v (suc n) s t (omega arith) (λ e. f (suc e)) (λ e i q h. z (suc e) i (omega arith) h) d)
  total_unspent v n (false ∷ s) (false ∷ t) l f z d = total_unspent v (suc n) s t (omega arith) (λ e. f (suc e)) (λ e i q h. z (suc e) i (omega arith) h) d

  -- less everywhere, and a less at an edge of the set: lighter by a
  pub total-less : (v : ℕ → ℕ) (n : ℕ) (t : List Bool) (a e i : ℕ) → i ≡ n + e → ((x : ℕ) → v x ≤ w x) → Has t e → v i + a ≤ w i
      → total v (rising n t) + a ≤ total w (rising n t)
  total-less v n [] a e i q d h l = absurd (false≢true h)
  total-less v n (true ∷ t) a zero i q d h l = let p : i ≡ n = omega arith in omega (arith, ap v p, ap w p, total_down v w (rising (suc n) t) d)
  total-less v n (false ∷ t) a zero i q d h l = absurd (false≢true h)
  total-less v n (true ∷ t) a (suc e) i q d h l = omega (arith, d n, total-less v (suc n) t a e i (omega arith) d h l)
  total-less v n (false ∷ t) a (suc e) i q d h l = total-less v (suc n) t a e i (omega arith) d h l

  -- a set weighs at least what one edge of it does
  pub total_has : (n : ℕ) (t : List Bool) (e i : ℕ) → i ≡ n + e → Has t e → w i ≤ total w (rising n t)
  total_has n t e i q h = omega (arith, total-less (λ x. 0) n t (w i) e i q (λ x. omega arith) h (omega arith))

  -- a part weighs no more
  pub total-part : (n : ℕ) (s t : List Bool) → length s ≡ length t → PartOf s t → total w (rising n s) ≤ total w (rising n t)
  total-part n s t l f = omega (arith, total_unspent (λ e. 0) n s t l f (λ e i q h. refl) (λ e. omega arith))
