-- `lightest::search::level_of` meets its contract: the bound, with its route as a set.
use Rattle.std.proofs.Common.{None, Some, rules, ◌≡◌, length}
use native.Mathlib.Nat.{pos_of_ne-zero}
use Rattle.lightest.proofs.Flags.{levelled}
use Rattle.lightest.proofs.search.level_of.Goals as goal

pub returns-then-is_empty : goal.returns-then-is_empty
returns-then-is_empty c = levelled _ _ _ c.bound-packing.result None c.bound-packing.ensures (search rules)

pub returns-else-is_empty : goal.returns-else-is_empty
returns-else-is_empty c =
    let m = rw c.deref.ensures.0 at c.edges_of.ensures in
    let some : length c.bound-packing.result.route.items ≡ 0 → ⊥ = λ z. search rules in
    levelled _ _ _ c.bound-packing.result (Some c.edges_of.result) c.bound-packing.ensures (pos_of_ne-zero some, m)
