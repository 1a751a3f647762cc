-- Whether all orders name nodes below c, place by place.
-- Assumes nothing.
use mathlib.Core.Bool.{Bool, false, true}
use mathlib.Core.List.{List}
use mathlib.Core.Logic.{◌⊎◌, inl, inr}
use mathlib.Core.Path.{◌≡◌, subst⁻¹}
use Prim.Native.Nat.{ℕ, ◌≤◌}
use native.Mathlib.Omega.{arith}
use Rattle.std.specs.Prelude.{EachIndex, SomeIndex}
use Rattle.graph.specs.declared.Order.{Order}
use Rattle.graph.specs.Graph.{no_order, order}
use Rattle.graph.specs.Strip.{AllName, Names}
use Rattle.graph.proofs.Members.{at_mem, mem_at}

pub named_above : (c : ℕ) (orders : List Order) (b : Bool)
    → (b ≡ true → SomeIndex orders (λ k. (c ≤ (order orders k).first) ⊎ (c ≤ (order orders k).second)))
    → (b ≡ false → EachIndex orders (λ k. Names c (order orders k)))
    → (b ≡ true → ¬ AllName c orders) × (b ≡ false → AllName c orders)
named_above c orders b some each = (
  λ e all. let (k, h, high) = some e in high_not (all (order orders k) (at_mem no_order orders k h)) high,
  λ e o m. let (k, h, at) = mem_at no_order orders m in subst⁻¹ (Names c) at (each e k h),
)
  where
    high_not : {o : Order} → Names c o → (c ≤ o.first) ⊎ (c ≤ o.second) → ⊥
    high_not n (inl h) = omega (arith, n.0)
    high_not n (inr h) = omega (arith, n.1)
