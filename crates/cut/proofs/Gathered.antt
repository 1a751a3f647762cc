-- The open ones of some orders: gathered one after the other, and what holds of them.
-- Assumes nothing.
use mathlib.Core.Bool.{Bool, true, false, false≢true, true≢false}
use mathlib.Core.List.{List, [], ◌∷◌, ◌++◌}
use mathlib.Core.Path.{◌≡◌, refl, ap, ◌∙◌}
use Prim.Native.Nat.{ℕ, zero, suc, ◌+◌, ◌<◌}
use native.Mathlib.Nat.{le_of_suc-le-suc, not-suc-le-zero}
use native.Mathlib.Numerals.{add-one}
use native.Mathlib.Omega.{arith}
use lib.ListN.{length, take}
use Rattle.std.specs.List.{All, Contains}
use Rattle.graph.specs.declared.Order.{Order}
use Rattle.graph.specs.Graph.{order}
use Rattle.lightest.specs.Sets.{Has}
use Rattle.walked.specs.Unordered.{Out}
use Rattle.cut.specs.Given.{open_of}

-- ---- order by order

next_open : (orders : List Order) (flags : List Bool) (n : ℕ) → n < length orders → Has flags n
    → open_of (take (suc n) orders) flags ≡ open_of (take n orders) flags ++ order orders n ∷ []
next_open [] flags n h f = absurd (not-suc-le-zero h)
next_open (o ∷ orders) [] n h f = absurd (false≢true f)
next_open (o ∷ orders) (true ∷ flags) zero h f = refl
next_open (o ∷ orders) (false ∷ flags) zero h f = absurd (false≢true f)
next_open (o ∷ orders) (true ∷ flags) (suc n) h f = ap (λ (l : List Order). o ∷ l) (next_open orders flags n (le_of_suc-le-suc h) f)
next_open (o ∷ orders) (false ∷ flags) (suc n) h f = next_open orders flags n (le_of_suc-le-suc h) f

pub more_open : (orders : List Order) (flags : List Bool) (n : ℕ) → n < length orders → Has flags n
    → open_of (take (n + 1) orders) flags ≡ open_of (take n orders) flags ++ order orders n ∷ []
more_open orders flags n h f = ap (λ (m : ℕ). open_of (take m orders) flags) (add-one n) ∙ next_open orders flags n h f

next_held : (orders : List Order) (flags : List Bool) (n : ℕ) → n < length orders → Out flags n
    → open_of (take (suc n) orders) flags ≡ open_of (take n orders) flags
next_held [] flags n h f = absurd (not-suc-le-zero h)
next_held (o ∷ orders) [] zero h f = refl
next_held (o ∷ orders) [] (suc n) h f = refl
next_held (o ∷ orders) (true ∷ flags) zero h f = absurd (true≢false f)
next_held (o ∷ orders) (false ∷ flags) zero h f = refl
next_held (o ∷ orders) (true ∷ flags) (suc n) h f = ap (λ (l : List Order). o ∷ l) (next_held orders flags n (le_of_suc-le-suc h) f)
next_held (o ∷ orders) (false ∷ flags) (suc n) h f = next_held orders flags n (le_of_suc-le-suc h) f

pub more_held : (orders : List Order) (flags : List Bool) (n : ℕ) → n < length orders → Out flags n
    → open_of (take (n + 1) orders) flags ≡ open_of (take n orders) flags
more_held orders flags n h f = ap (λ (m : ℕ). open_of (take m orders) flags) (add-one n) ∙ next_held orders flags n h f

-- ---- what holds of them

pub each_open : (P : Order → Type 0) (orders : List Order) (flags : List Bool)
    → ((i : ℕ) → i < length orders → Has flags i → P (order orders i)) → All P (open_of orders flags)
each_open P [] flags f k d h = absurd (not-suc-le-zero h)
each_open P (o ∷ orders) [] f k d h = absurd (not-suc-le-zero h)
each_open P (o ∷ orders) (true ∷ flags) f zero d h = f 0 (omega arith) refl
each_open P (o ∷ orders) (true ∷ flags) f (suc k) d h =
    each_open P orders flags (λ i l. f (suc i) (omega arith)) k d (le_of_suc-le-suc h)
each_open P (o ∷ orders) (false ∷ flags) f k d h = each_open P orders flags (λ i l. f (suc i) (omega arith)) k d h

pub open_there : (orders : List Order) (flags : List Bool) (i : ℕ) → i < length orders → Has flags i → Contains (open_of orders flags) (order orders i)
open_there [] flags i h f = absurd (not-suc-le-zero h)
open_there (o ∷ orders) [] i h f = absurd (false≢true f)
open_there (o ∷ orders) (true ∷ flags) zero h f = (0, omega arith, refl)
open_there (o ∷ orders) (false ∷ flags) zero h f = absurd (false≢true f)
open_there (o ∷ orders) (true ∷ flags) (suc i) h f =
    let k = open_there orders flags i (le_of_suc-le-suc h) f in (suc k.0, omega (arith, k.1), k.2)
open_there (o ∷ orders) (false ∷ flags) (suc i) h f = open_there orders flags i (le_of_suc-le-suc h) f
