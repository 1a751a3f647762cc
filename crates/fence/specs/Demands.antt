-- Demands 2 and 3, of what run and strip return and write.
-- Assumes nothing.
use mathlib.Core.List.{List, Memᴰ, [], ◌++◌}
use Rattle.std.specs.Prelude.{◌≡◌, ◌+◌, ◌≤◌, ℕ, length, take}
use Rattle.outcome.specs.declared.Report.{Report}
use Rattle.graph.specs.declared.Order.{Order}
use Rattle.graph.specs.declared.Rule.{Rule}
use Rattle.outcome.specs.Outcome.{RunOutcome, StripOutcome, over, with_graph}
use Rattle.graph.specs.Cut.{Rising, ChosenCut, weight}
use Rattle.graph.specs.Graph.{Graph}
use Rattle.graph.specs.Held.{Held}
use Rattle.graph.specs.Strip.{AllName}
use Rattle.graph.specs.Written.{written}
use Rattle.request.specs.File.{Request, bytes, request}
use Rattle.request.specs.Proper.{Reads}

-- an accepted run on the file s, which holds q: it returned r, and t stands at the front of the lent buffer
pub record Accepted (s : List ℕ) (q : Request) (r : Report) (t : List ℕ) : Type 0 where
  pub reads : Reads s q
  pub before : List ℕ
  pub after : List ℕ
  pub outcome : RunOutcome s before r after
  pub answer : r.answer ≡ 0
  pub wrote : t ≡ take r.length after

-- strip on the file s, to that node count, with room for the file t: it takes off so many fences of that weight, and writes t
abbrev pub StripsBack : List ℕ → (count : ℕ) → (fences : ℕ) → (weight : ℕ) → List ℕ → Type 0
StripsBack s count fences weight t = (before after : List ℕ) (r : Report) → length t ≤ length before → StripOutcome s count before r after
    → (r ≡ record { answer = 0; place = 0; fences = fences; weight = weight; length = length t }) × (after ≡ over before t)

-- demand 2, of an accepted run and the cut c
pub record Demand2 (s : List ℕ) (q : Request) (r : Report) (t : List ℕ) (c : List ℕ) : Type 0 where
  -- "no set of less weight does; of equal weights the list first by edge number is taken": it is the only one
  pub chosen : ChosenCut q.graph q.rules q.orders c
  pub only : (d : List ℕ) → ChosenCut q.graph q.rules q.orders d → d ≡ c
  -- what is written is a file again, with the cut's fences in its graph
  pub again : Reads t (with_graph q (written q.graph c))
  -- "In the graph written every asked order is held."
  pub held : (o : Order) → Memᴰ o q.orders → Held (written q.graph c) q.rules o
  -- "no lighter set of edges, each given a full fence, leaves all asked orders held"
  pub lightest : (d : List ℕ) → Rising 0 (length q.graph.edges) d → ((o : Order) → Memᴰ o q.orders → Held (written q.graph d) q.rules o)
      → r.weight ≤ weight q.graph d
  -- "Taking the fences off gives the earlier graph's bytes."
  pub off : StripsBack t (length q.graph.nodes) r.fences r.weight s

-- "any sequence of accepted runs, each on what the last wrote, with the rules unchanged and orders naming nodes of the first graph", which has so many;
-- with all orders asked, and the fences and weights told added up. Each file has the graph that the last one wrote, and its own orders
pub data Runs (count : ℕ) (rules : List Rule) : Graph → List Order → (fences : ℕ) → (weight : ℕ) → Graph → Type 0 where
  none : {g : Graph} → Runs count rules g [] 0 0 g
  run : {asked : List Order} {fences weight : ℕ} {last : Graph} (s t : List ℕ) (q p : Request) (r : Report)
      → Accepted s q r t → q.rules ≡ rules → AllName count q.orders → Reads t p
      → Runs count rules p.graph asked fences weight last
      → Runs count rules q.graph (q.orders ++ asked) (fences + r.fences) (weight + r.weight) last

-- demand 3, of the first graph and the last
pub record Demand3 (rules : List Rule) (first : Graph) (asked : List Order) (fences weight : ℕ) (last : Graph) : Type 0 where
  -- "every order asked in any of them is held at the end"
  pub held : (o : Order) → Memᴰ o asked → Held last rules o
  -- "a run whose orders were all asked before returns its file unchanged"
  pub again : (s : List ℕ) (q : Request) → Reads s q → q.graph ≡ last → q.rules ≡ rules → ((o : Order) → Memᴰ o q.orders → Memᴰ o asked)
      → (before after : List ℕ) (r : Report) → length s ≤ length before → RunOutcome s before r after
      → (r ≡ record { answer = 0; place = 0; fences = 0; weight = 0; length = length s }) × (after ≡ over before s)
  -- "stripping to the first node count restores the first graph", with the orders of the file
  pub off : (s : List ℕ) (q : Request) → Reads s q → q.graph ≡ last → AllName (length first.nodes) q.orders
      → StripsBack s (length first.nodes) fences weight (bytes (with_graph q first))

-- history does not matter: after whatever runs, the file with the last graph and today's orders, stripped to the first node count, runs as
-- the file with the first graph and these orders does
abbrev pub Forgotten : List Rule → Graph → Graph → Type 0
Forgotten rules first last = (s : List ℕ) (q : Request) → Reads s q → q.graph ≡ last → q.rules ≡ rules
    → (before after : List ℕ) (u : Report) → StripOutcome s (length first.nodes) before u after → u.answer ≡ 0
    → (fresh : List ℕ) → Reads fresh (request first rules q.orders)
    → (lent x y : List ℕ) (r v : Report) → RunOutcome (take u.length after) lent r x → RunOutcome fresh lent v y → (r ≡ v) × (x ≡ y)
