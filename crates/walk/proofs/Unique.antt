-- Unique: no second route and no other flags meet the contracts of `open_route` and `open_orders`.
-- Assumes nothing.
use mathlib.Core.Bool.{Bool, true, false}
use mathlib.Core.List.{List}
use mathlib.Core.Path.{◌≡◌, refl, sym, ◌∙◌}
use Rattle.std.specs.Prelude.{Option}
use Rattle.short_list.specs.ShortList.{ShortList}
use Prim.Native.Nat.{ℕ, ◌<◌}
use lib.ListN.{length, get_or}
use Rattle.graph.specs.declared.Graph.{Graph}
use Rattle.graph.specs.declared.Rule.{Rule}
use Rattle.graph.specs.Graph as Drawn
use Rattle.graph.specs.Value.{orders_of, Told}
use Rattle.graph.proofs.Unique.{asked_unique}
use Rattle.walk.specs.Asked.{AskedOf, shown}
use Rattle.words.specs.Words.{WordsOf}

pub route_unique : {g : Drawn.Graph} {rules : List Rule} {c : List ℕ} (succ fits : List ℕ) → WordsOf g rules c succ fits → (a b : ℕ) (v w : Option (ShortList ℕ))
    → AskedOf succ fits a b (shown v)
    → AskedOf succ fits a b (shown w)
    → shown v ≡ shown w
route_unique {g} {rules} {c} succ fits of a b v w x y = asked_unique (x g rules c of) (y g rules c of)

pub told_unique : {g : Graph} (x y : List Bool) → Told g x → Told g y → (i : ℕ) → i < length (orders_of g) → get_or x i false ≡ get_or y i false
told_unique x y p q i h = by (get_or x i false) refl (get_or y i false) refl
  where
    by : (b : Bool) → get_or x i false ≡ b → (d : Bool) → get_or y i false ≡ d → get_or x i false ≡ get_or y i false
    by true e true f = e ∙ sym f
    by true e false f = absurd (p.is_open i h e (q.is_held i h f))
    by false e true f = absurd (q.is_open i h f (p.is_held i h e))
    by false e false f = e ∙ sym f
