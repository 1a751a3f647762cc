-- Flags and rising lists are the same sets: the least by flags is the best by lists.
-- Assumes nothing.
use mathlib.Core.Bool.{Bool, true, false, cond, true≢false, false≢true}
use mathlib.Core.List.{List, [], ◌∷◌}
use mathlib.Core.Logic.{◌⊎◌, inl, inr, ⊎_elim}
use mathlib.Core.Path.{◌≡◌, refl, sym, ap, ◌∙◌, subst}
use Prim.Native.Nat.{ℕ, zero, suc, ◌+◌, ◌<◌, ◌≤◌}
use native.Mathlib.Omega.{arith}
use lib.Dec.{eqb}
use lib.ListN.{length, get_or}
use borrow.Author.Tests.{eq-eqb, ne_eqb}
use Rattle.graph.proofs.Says.{decide, says_eq}
use Rattle.graph.proofs.Splits.{true_false}
use Rattle.lightest.specs.Sets.{Has, Edges, Least, weigh}
use Rattle.graph.specs.Cut.{Rising, First, Best, total}
use Rattle.graph.specs.Held.{Absent}
use Rattle.graph.specs.Limits.{most_edges}
use Rattle.graph.specs.Value.{rising}
use Rattle.walked.specs.Unordered.{Out}

-- ---- from flags to a list. The first flag is that of edge n

pub rising-rising : (n m : ℕ) (t : List Bool) → ((k : ℕ) → Has t k → n + k < m) → Rising n m (rising n t)
rising-rising n m t f = go n t f n (omega arith)
  where
    go : (n : ℕ) (t : List Bool) → ((k : ℕ) → Has t k → n + k < m) → (b : ℕ) → b ≤ n → Rising b m (rising n t)
    go n [] f b h = tt
    go n (true ∷ t) f b h = (h, omega (arith, f 0 refl), go (suc n) t (λ k q. omega (arith, f (suc k) q)) (suc n) (omega arith))
    go n (false ∷ t) f b h = go (suc n) t (λ k q. omega (arith, f (suc k) q)) b (omega arith)

low_absent : (n z : ℕ) (t : List Bool) → z < n → Absent z (rising n t)
low_absent n z [] h = tt
low_absent n z (true ∷ t) h = ((λ e. omega arith), low_absent (suc n) z t (omega arith))
low_absent n z (false ∷ t) h = low_absent (suc n) z t (omega arith)

-- an edge is absent from the list exactly where its flag is not set
pub out_absent : (n : ℕ) (t : List Bool) (k z : ℕ) → z ≡ n + k → Out t k → Absent z (rising n t)
out_absent n [] k z q o = tt
out_absent n (true ∷ t) zero z q o = absurd (true≢false o)
out_absent n (true ∷ t) (suc k) z q o = ((λ e. omega arith), out_absent (suc n) t k z (omega arith) o)
out_absent n (false ∷ t) zero z q o = low_absent (suc n) z t (omega arith)
out_absent n (false ∷ t) (suc k) z q o = out_absent (suc n) t k z (omega arith) o

pub absent_out : (n : ℕ) (t : List Bool) (k z : ℕ) → z ≡ n + k → Absent z (rising n t) → Out t k
absent_out n [] k z q a = refl
absent_out n (true ∷ t) zero z q a = absurd (a.0 (omega arith))
absent_out n (true ∷ t) (suc k) z q a = absent_out (suc n) t k z (omega arith) a.1
absent_out n (false ∷ t) zero z q a = refl
absent_out n (false ∷ t) (suc k) z q a = absent_out (suc n) t k z (omega arith) a

-- ---- from a list to flags

-- whether a rising list from n on begins with n, and what of it comes after n
headed : ℕ → List ℕ → Bool
headed n [] = false
headed n (x ∷ d) = eqb x n

past : ℕ → List ℕ → List ℕ
past n [] = []
past n (x ∷ d) = cond (eqb x n) d (x ∷ d)

parted : (n top : ℕ) (d : List ℕ) → Rising n top d
    → Rising (suc n) top (past n d) × (((headed n d ≡ true) × (d ≡ n ∷ past n d) × (n < top)) ⊎ ((headed n d ≡ false) × (d ≡ past n d)))
unfolding headed past
parted n top [] r = (tt, inr (refl, refl))
parted n top (x ∷ d) r = ⊎_elim
    (λ p. rw (eq-eqb x n p) (subst (λ (y : ℕ). Rising (suc y) top d) p r.2, inl (refl, ap (λ (y : ℕ). y ∷ d) p, omega (arith, p, r.1))))
    (λ p. rw (ne_eqb x n p) ((omega (arith, p, r.0), r.1, r.2), inr (refl, refl))) (decide (says_eq x n))

-- m flags for the numbers from n on: those in the rising list d are set
flags : ℕ → ℕ → List ℕ → List Bool
flags n zero d = []
flags n (suc m) d = headed n d ∷ flags (suc n) m (past n d)

flags_long : (n m : ℕ) (d : List ℕ) → length (flags n m d) ≡ m
unfolding flags
flags_long n zero d = refl
flags_long n (suc m) d = ap suc (flags_long (suc n) m (past n d))

rising_flags : (n m top : ℕ) (d : List ℕ) → top ≤ n + m → Rising n top d → rising n (flags n m d) ≡ d
unfolding flags
rising_flags n zero top [] h r = refl
rising_flags n zero top (x ∷ d) h r = absurd (omega (arith, r.0, r.1))
rising_flags n (suc m) top d h r =
    let s = parted n top d r in
    let rest = rising_flags (suc n) m top (past n d) (omega arith) s.0 in
    ⊎_elim (λ y. rw y.0 (ap (λ (l : List ℕ). n ∷ l) rest ∙ sym y.1)) (λ y. rw y.0 (rest ∙ sym y.1)) s.1

flags_known : (n m top : ℕ) (d : List ℕ) (k : ℕ) → Rising n top d → Has (flags n m d) k → n + k < top
unfolding flags
flags_known n zero top d k r h = absurd (false≢true h)
flags_known n (suc m) top d zero r h = ⊎_elim (λ y. omega (arith, y.2)) (λ y. true_false h y.0) (parted n top d r).1
flags_known n (suc m) top d (suc k) r h = omega (arith, flags_known (suc n) m top (past n d) k (parted n top d r).0 h)

-- ---- the least by flags

pub total_same : (v w : ℕ → ℕ) (xs : List ℕ) → ((e : ℕ) → v e ≡ w e) → total v xs ≡ total w xs
total_same v w [] f = refl
total_same v w (x ∷ xs) f = omega (arith, f x, total_same v w xs f)

module _ (ws : List ℕ) (few : length ws ≤ most_edges) (heavy : (e : ℕ) → e < length ws → 1 ≤ get_or ws e 0) (w : ℕ → ℕ) (same : (e : ℕ) → get_or ws e 0 ≡ w e)
    (P : List Bool → Type 0) (Q : List ℕ → Type 0) (to : (t : List Bool) → Edges ws t → P t → Q (rising 0 t))
    (rises : (d : List ℕ) → Q d → Rising 0 (length ws) d)
    (back : (d : List ℕ) → Q d → (t : List Bool) → rising 0 t ≡ d → P t) where
  abbrev set : List ℕ → List Bool
  set d = flags 0 most_edges d

  again : (d : List ℕ) → Q d → rising 0 (set d) ≡ d
  again d q = rising_flags 0 most_edges (length ws) d (omega arith) (rises d q)

  edges : (d : List ℕ) → Q d → Edges ws (set d)
  edges d q = record {
    long = flags_long 0 most_edges d;
    known = λ e h. let l : e < length ws = omega (arith, flags_known 0 most_edges (length ws) d e (rises d q) h) in (l, heavy e l);
  }

  good : (d : List ℕ) → Q d → P (set d)
  good d q = back d q (set d) (again d q)

  heft : (d : List ℕ) → Q d → weigh ws (set d) ≡ total w d
  heft d q = ap (total (λ e. get_or ws e 0)) (again d q) ∙ total_same (λ e. get_or ws e 0) w d same

  pub least_best : (c : List Bool) → Edges ws c → Least ws P c → Best Q (total w) (rising 0 c)
  least_best c ec y = record {
    among = to c ec y.good;
    least = λ d q. omega (arith, own, heft d q, y.least (set d) (edges d q) (good d q));
    first = λ d q e. subst (First (rising 0 c)) (again d q) (y.first (set d) (edges d q) (good d q) (own ∙ e ∙ sym (heft d q)));
  }
    where
      own : weigh ws c ≡ total w (rising 0 c)
      own = total_same (λ e. get_or ws e 0) w (rising 0 c) same
