-- Flags that tell of each order whether a route is shown, and so whether it is open.
-- Assumes nothing.
use mathlib.Core.Bool.{Bool, true, false, true≢false}
use mathlib.Core.List.{List, []}
use mathlib.Core.Path.{◌≡◌, refl, sym, subst⁻¹, ◌∙◌}
use Rattle.std.specs.Prelude.{Option, Some, None, IfSome, is_some}
use Rattle.short_list.specs.ShortList.{ShortList}
use Prim.Native.Nat.{ℕ, ◌+◌, ◌<◌}
use native.Mathlib.Decide.{ℕ_discrete}
use native.Mathlib.Omega.{arith}
use lib.Dec.{ltb}
use lib.ListN.{length, get_or, set}
use lib.Seq.{get_or-set_same, get_or-set_other}
use borrow.Author.Tests.{lt-ltb, le-ltb}
use Rattle.graph.specs.declared.Graph.{Graph}
use Rattle.graph.specs.declared.Order.{Order}
use Rattle.graph.specs.declared.Rule.{Rule}
use Rattle.graph.specs.Ask.{AskedWithout, is_held, is_open}
use Rattle.graph.specs.Graph.{order}
use Rattle.graph.specs.Graph as Drawn
use Rattle.graph.specs.Held.{HeldWithout}
use Rattle.graph.specs.Value.{graph_of, rules_of, orders_of, Told}
use Rattle.walk.specs.Asked.{AskedOf, shown}
use Rattle.words.specs.Words.{WordsOf}

-- ---- what `open_orders` keeps: the flags below i are right

abbrev pub Judged : List ℕ → List ℕ → List Order → List Bool → ℕ → Type 0
Judged succ fits orders flags j =
    (route : List ℕ) × AskedOf succ fits (order orders j).first (order orders j).second route × (get_or flags j false ≡ ltb 0 (length route))

-- the flag of a route that is looked for: a route that is found has nodes
shown_flag : (P : ShortList ℕ → Type 0) (way : Option (ShortList ℕ)) → IfSome way (λ route. (0 < length route.items) × P route)
    → is_some way ≡ ltb 0 (length (shown way))
shown_flag P None h = refl
shown_flag P (Some route) h = sym (lt-ltb 0 (length route.items) h.0)

pub judged_more : (P : ShortList ℕ → Type 0) (succ fits : List ℕ) (orders : List Order) (flags : List Bool) (i : ℕ) (way : Option (ShortList ℕ)) (b : Bool)
    → b ≡ is_some way
    → ((j : ℕ) → j < i → Judged succ fits orders flags j)
    → i < length flags
    → IfSome way (λ route. (0 < length route.items) × P route)
    → AskedOf succ fits (order orders i).first (order orders i).second (shown way)
    → (j : ℕ) → j < i + 1 → Judged succ fits orders (set flags i b) j
judged_more P succ fits orders flags i way b flag judged h some is j k = elim (ℕ_discrete j i) [
  | yes e ↦ subst⁻¹ (Judged succ fits orders (set flags i b)) e (shown way, is, get_or-set_same flags i b false h ∙ flag ∙ shown_flag P way some)
  | no n ↦ let r = judged j (omega arith) in (r.0, r.1, get_or-set_other flags i j b false n ∙ r.2)
]

-- ---- a route is shown exactly of an open order

shown_open : {g : Drawn.Graph} {rules : List Rule} {c : List ℕ} {a b : ℕ} (route : List ℕ) → AskedWithout g rules c a b route → ltb 0 (length route) ≡ true
    → ¬ HeldWithout g rules c a b
shown_open route (is_held h) e = absurd (true≢false (sym e ∙ le-ltb 0 0 (omega arith)))
shown_open route (is_open {between = l} s) e = λ h. s.unordered (h l s.route)

unshown_held : {g : Drawn.Graph} {rules : List Rule} {c : List ℕ} {a b : ℕ} (route : List ℕ) → AskedWithout g rules c a b route
    → ltb 0 (length route) ≡ false → HeldWithout g rules c a b
unshown_held route (is_held h) e = h
unshown_held {b = b} route (is_open {between = l} s) e = absurd (true≢false (sym (lt-ltb 0 (length route) (omega arith)) ∙ e))

pub judged_told : (g : Graph) (succ fits : List ℕ) (flags : List Bool) → WordsOf (graph_of g) (rules_of g) [] succ fits
    → ((j : ℕ) → j < length (orders_of g) → Judged succ fits (orders_of g) flags j) → Told g flags
judged_told g succ fits flags of judged = record {
  is_open = λ i h e. let r = judged i h in shown_open r.0 (r.1 (graph_of g) (rules_of g) [] of) (sym r.2 ∙ e);
  is_held = λ i h e. let r = judged i h in unshown_held r.0 (r.1 (graph_of g) (rules_of g) [] of) (sym r.2 ∙ e);
}
