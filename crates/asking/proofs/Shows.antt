-- Ask over a graph by value: what the walk shows of an order is its outcome.
-- Assumes nothing.
use mathlib.Core.List.{List, []}
use mathlib.Core.Path.{◌≡◌, ap}
use Prim.Native.Nat.{◌<◌, ◌≤◌, ℕ}
use lib.ListN.{length}
use Rattle.std.specs.Prelude.{Option, Some, None}
use Rattle.std.specs.Option.{UnwrapsOrElse}
use Rattle.short_list.specs.ShortList.{ShortList}
use Rattle.graph.specs.declared.Order.{Order}
use Rattle.outcome.specs.Outcome.{AskOutcome, over}
use Rattle.graph.specs.Graph.{order}
use Rattle.graph.specs.Limits.{most_nodes}
use Rattle.graph.specs.Value.{graph_of, orders_of, rules_of}
use Rattle.walk.specs.Asked.{AskedOf, shown}
use Rattle.words.specs.Words.{WordsOf}
use Rattle.outcome.proofs.Showing.{ask_accepted}
use Rattle.graph.specs.declared.Graph as Value
use Rattle.request.specs.Value.{request_in}
use Rattle.request.specs.Proper.{Reads}

-- where no route is shown there are no nodes
pub shown_nodes : (way : Option (ShortList ℕ)) (route : ShortList ℕ) → UnwrapsOrElse way (λ (v : ShortList ℕ). v.items ≡ []) route → route.items ≡ shown way
shown_nodes None route e = e
shown_nodes (Some way) route e = ap (λ (v : ShortList ℕ). v.items) e

pub route_shown : (g : Value.Graph) (k : ℕ) → k < length (orders_of g) → {o : List ℕ} → most_nodes ≤ length o
    → {succ fits : List ℕ} → WordsOf (graph_of g) (rules_of g) [] succ fits → (asked : Order) → asked ≡ order (orders_of g) k
    → (route : List ℕ) → AskedOf succ fits asked.first asked.second route → {n : ℕ} {o' : List ℕ} → n ≡ length route → o' ≡ over o route
    → (s : List ℕ) → Reads s (request_in g) → AskOutcome s k o (record { answer = 0; place = 0; length = n }) o'
route_shown g k there room words asked is route shows {n} long written s reads =
    ask_accepted s (request_in g) k reads _ there room route (rw (← is) (shows (graph_of g) (rules_of g) [] words)) _ _
    (λ i. record { answer = 0; place = 0; length = long i }) written
