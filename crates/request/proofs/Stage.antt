-- A stage of the reader finds the first bad record of a mark, or there is none.
-- Assumes nothing.
use mathlib.Core.Bool.{Bool, false, true}
use mathlib.Core.Logic.{◌⊎◌, inl, inr}
use mathlib.Core.Path.{◌∙◌, ◌≡◌, ap, refl, subst, sym}
use Prim.Native.Nat.{◌+◌, ◌<◌, ◌≤◌, suc, zero, ℕ}
use native.Mathlib.Decide.{ℕ_discrete}
use native.Mathlib.Omega.{arith}
use lib.Dec.{T}
use Rattle.request.specs.declared.Answer.{Answer}
use Rattle.request.specs.declared.Counts.{Counts}
use Rattle.request.specs.declared.Refusal.{Refusal}
use Rattle.std.specs.Prelude.{Result}
use Rattle.request.specs.Answers.{refused}
use Rattle.request.specs.Bad.{Listed}
use Rattle.request.specs.Earliest.{earliest}
use Rattle.request.specs.Tables.{listed}
use Rattle.graph.proofs.Says.{Says}
use Rattle.request.proofs.Cases.{listed_bad, listed_good}
use Rattle.request.proofs.Earliest.{earliest_is, earliest_none}

-- none of the first n fails
abbrev None : (ℕ → Bool) → (ℕ → Type 0) → ℕ → Type 0
None p B n = (k : ℕ) → k < n → (p k ≡ false) × (B k → ⊥)

-- one of them is the first that does, or none does
abbrev Search : (ℕ → Bool) → (ℕ → Type 0) → ℕ → Type 0
Search p B n = ((j : ℕ) × (j < n) × (p j ≡ true) × B j × None p B j) ⊎ None p B n

find : (p : ℕ → Bool) (B : ℕ → Type 0) (n : ℕ) → ((i : ℕ) → i < n → Says (p i) (B i)) → Search p B n
find p B zero s = inr (λ k h. absurd (let z : ⊥ = omega arith in z))
find p B (suc n) s = go (find p B n (λ i h. s i (omega arith))) (p n) refl (s n (omega arith))
  where
    all : None p B n → p n ≡ false → (B n → ⊥) → (k : ℕ) → k < suc n → Dec (k ≡ n) → (p k ≡ false) × (B k → ⊥)
    all f e b k h (yes q) = (ap p q ∙ e, λ x. b (subst B q x))
    all f e b k h (no q) = f k (omega (arith, q))

    go : Search p B n → (c : Bool) → p n ≡ c → Says (p n) (B n) → Search p B (suc n)
    go (inl (j, h, e, b, f)) c q t = inl (j, omega arith, e, b, f)
    go (inr f) true q t = inl (n, omega arith, q, t.so (subst T (sym q) tt), f)
    go (inr f) false q t = inr (λ k h. all f q (λ x. subst T q (t.back x)) k h (ℕ_discrete k n))

pub data Stage (answer : Answer) (start n : ℕ) (B : ℕ → Type 0) (later r : Result Counts Refusal) : Type 0 where
  refuses : (q : ℕ) → r ≡ refused answer q → Listed start n B q → ((x : ℕ) → Listed start n B x → q ≤ x) → Stage answer start n B later r
  passes : r ≡ later → ((i : ℕ) → i < n → B i → ⊥) → Stage answer start n B later r

pub stage : (answer : Answer) (start n : ℕ) (p : ℕ → Bool) (B : ℕ → Type 0) (later : Result Counts Refusal) → ((i : ℕ) → i < n → Says (p i) (B i))
    → Stage answer start n B later (listed answer start (earliest p n) n later)
stage answer start n p B later s = go (find p B n s)
  where
    first_one : (j : ℕ) → ((k : ℕ) → k < j → B k → ⊥) → (x i : ℕ) → B i → x ≡ start + i → start + j ≤ x
    first_one j f x i b e = let n : i < j → ⊥ = λ l. f i l b in omega (arith, n)

    go : Search p B n → Stage answer start n B later (listed answer start (earliest p n) n later)
    go (inl (j, h, e, b, f)) =
        let q : earliest p n ≡ j = earliest_is p n j h (λ k l. (f k l).0) e in
        refuses (start + j) (ap (λ (i : ℕ). listed answer start i n later) q ∙ listed_bad answer start j n later h) (j, h, b, refl)
        (λ x (i, l, b', u). first_one j (λ k l. (f k l).1) x i b' u)
    go (inr f) =
        let q : earliest p n ≡ n = earliest_none p n (λ k l. (f k l).0) in
        passes (ap (λ (i : ℕ). listed answer start i n later) q ∙ listed_good answer start n n later (omega arith)) (λ i h. (f i h).1)
