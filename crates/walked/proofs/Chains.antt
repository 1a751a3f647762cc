-- Edges one after the other, with the nodes between; and no more nodes than there are.
-- Assumes nothing.
use mathlib.Core.Bool.{false}
use mathlib.Core.List.{List, [], ◌∷◌, ◌++◌}
use mathlib.Core.Path.{◌≡◌, refl, ◌∙◌}
use Prim.Native.Nat.{ℕ, zero, suc, ◌+◌, ◌*◌, ◌<◌, ◌≤◌, ◌^◌}
use native.Mathlib.Nat.{one-mul}
use native.Mathlib.Omega.{arith}
use lib.Bits.{or_lt}
use lib.Count.{ones, ones-le}
use lib.ListN.{length, get_or}
use lib.Pow.{pow-lt, pow_pos}
use Rattle.flags.specs.Flag.{flag, put}
use Rattle.flags.proofs.Digit.{flag_zero}
use Rattle.flags.proofs.Put.{put_count, put_other}
use Rattle.graph.specs.Held.{Absent, Follows, NoneTwice, Ordered, Within}
use Rattle.graph.specs.Ask.{along}
use Rattle.graph.specs.Limits.{most_nodes}
use Rattle.walk.specs.Asked.{Lists}
use Rattle.walked.specs.Unordered.{Out, Goes, Leads, FoundUnordered}
use Rattle.route.specs.Way.{Remains}

-- ---- no more nodes than there are

put_room : (m w k : ℕ) → w < 2 ^ m → k < m → put w k < 2 ^ m
unfolding put
put_room m w k h l = or_lt m w (1 * 2 ^ k) h (rw one-mul (pow-lt l))

gathered : (m : ℕ) (l : List ℕ) → NoneTwice l → Within m l → (w : ℕ) × (w < 2 ^ m) × (ones w ≡ length l) × ((k : ℕ) → Absent k l → flag w k ≡ false)
unfolding ones
gathered m [] o h = (0, pow_pos m, refl, λ k q. flag_zero k)
gathered m (x ∷ l) o h =
    let (w, few, count, free) = gathered m l o.1 h.1 in
    (put w x, put_room m w x few h.0, omega (arith, put_count w x (free x o.0), count), λ k q. put_other w x k q.0 ∙ free k q.1)

pub few_nodes : (m : ℕ) (l : List ℕ) → NoneTwice l → Within m l → length l ≤ m
few_nodes m l o h = let (w, few, count, free) = gathered m l o h in omega (arith, ones-le m w few, count)

-- ---- edges one after the other

-- the edges es lead from a to b, over the nodes between
pub data Chain (R : ℕ → ℕ → ℕ → Type 0) : ℕ → List ℕ → List ℕ → ℕ → Type 0 where
  last : {a b e : ℕ} → R e a b → Chain R a (e ∷ []) [] b
  more : {a x b e : ℕ} {es between : List ℕ} → R e a x → Chain R x es between b → Chain R a (e ∷ es) (x ∷ between) b

module _ (R : ℕ → ℕ → ℕ → Type 0) where
  pub chain_join : {a k b e : ℕ} {es between : List ℕ} → Chain R a es between k → R e k b → Chain R a (es ++ e ∷ []) (between ++ k ∷ []) b
  chain_join (last r) s = more r (last s)
  chain_join (more r c) s = more r (chain_join c s)

  pub chain_long : {a b : ℕ} {es between : List ℕ} → Chain R a es between b → length es ≡ length between + 1
  chain_long (last r) = refl
  chain_long (more r c) = omega (arith, chain_long c)

module _ (from to : List ℕ) (A : ℕ → Type 0) where
  pub chain_edge : {a b : ℕ} {es between : List ℕ} → Chain (Goes from to A) a es between b → (k : ℕ) → k < length es
      → (get_or es k 0 < length from) × A (get_or es k 0)
  chain_edge (last r) zero h = (r.0, r.1)
  chain_edge (last r) (suc k) h = absurd (omega (arith, h))
  chain_edge (more r c) zero h = (r.0, r.1)
  chain_edge (more r c) (suc k) h = chain_edge c k (omega (arith, h))

  pub chain_led : (B : ℕ → Type 0) {a b : ℕ} {es between : List ℕ} → Chain (Goes from to A) a es between b → ((k : ℕ) → k < length es → B (get_or es k 0))
      → Follows (Leads from to B) a between b
  chain_led B (last {e = e} r) f = (e, (r.0, f 0 (omega arith), r.2, r.3))
  chain_led B (more {e = e} r c) f = ((e, (r.0, f 0 (omega arith), r.2, r.3)), chain_led B c (λ k h. f (suc k) (omega (arith, h))))

-- the edges of a chain are those of a route
pub chain_found : (from to fits left : List ℕ) (a b : ℕ) (es between : List ℕ) → Chain (Goes from to (Remains left)) a es between b
    → NoneTwice (along a between b) → (Ordered (Lists fits) a between b → ⊥) → length es ≤ most_nodes → FoundUnordered from to fits left a b es
chain_found from to fits left a b es between c once un few = record {
  short = few;
  none = λ z. absurd (omega (arith, z, chain_long (Goes from to (Remains left)) c));
  edge = λ k h. chain_edge from to (Remains left) c k h;
  way = λ h s out. (between, record { follows = chain_led from to (Remains left) (Out s) c out; once = once; unordered = un });
}
