-- What run, ask and strip return and leave in the lent buffer, for every input.
-- Assumes nothing.
use Rattle.std.specs.Prelude.{Err, List, Ok, Result, ◌++◌, ◌⊎◌, ◌≡◌, ◌+◌, ◌-◌, ◌<◌, ◌≤◌, ℕ, drop, length}
use Rattle.outcome.specs.declared.Report.{Report}
use Rattle.outcome.specs.declared.Shown.{Shown}
use Rattle.request.specs.declared.Answer.{Answer}
use Rattle.request.specs.declared.Refusal.{Refusal}
use Rattle.request.specs.declared.Answer.TheVariants.{NoRoom, NoSuchOrder, NotLoose, ShortBuffer}
use Rattle.graph.specs.Ask.{Asked}
use Rattle.graph.specs.Cut.{ChosenCut, weight}
use Rattle.graph.specs.Graph.{Graph, order}
use Rattle.graph.specs.Limits.{most_edges, most_nodes}
use Rattle.graph.specs.Refusal.{Refused}
use Rattle.graph.specs.Strip.{StripTo}
use Rattle.graph.specs.Written.{written}
use Rattle.request.specs.Answers.{number, rank}
use Rattle.request.specs.Bad.{Bad}
use Rattle.request.specs.File.{Request, bytes}
use Rattle.request.specs.Proper.{Reads}

-- "Rules and orders are unchanged."
abbrev pub with_graph : Request → Graph → Request
with_graph q h = record { graph = h; rules = q.rules; orders = q.orders }

-- "Bytes and entries past the length written keep their values."
abbrev pub over : List ℕ → List ℕ → List ℕ
over before xs = xs ++ drop (length xs) before

-- ---- run

-- the file that run writes for a cut
abbrev pub fenced_file : Request → List ℕ → List ℕ
fenced_file q c = bytes (with_graph q (written q.graph c))

-- which of run's answers apply where: 1 to 7, 9 and 11
pub data RunBad (s : List ℕ) (room : ℕ) : Answer → ℕ → Type 0 where
  in_file : {a : Answer} {p : ℕ} → Bad s a p → RunBad s room a p
  -- "run: nodes plus cut edges above 512, or edges plus cut edges above 1,024"
  no_room : (q : Request) (c : List ℕ) → Reads s q → ChosenCut q.graph q.rules q.orders c
      → (most_nodes < length q.graph.nodes + length c) ⊎ (most_edges < length q.graph.edges + length c) → RunBad s room NoRoom 0
  -- "output shorter than what must be written"
  too_short : (q : Request) (c : List ℕ) → Reads s q → ChosenCut q.graph q.rules q.orders c → room < length (fenced_file q c)
      → RunBad s room ShortBuffer 0

-- "All refusals return zeros beside answer and place and write nothing."
abbrev pub refusal : Answer → ℕ → Report
refusal a p = record { answer = number a; place = p; fences = 0; weight = 0; length = 0 }

-- what is returned where an operation succeeds or is refused
abbrev pub reported : Result Report Refusal → Report
reported (Ok r) = r
reported (Err e) = refusal e.answer e.place

-- "Run and strip return: answer, place, fences, weight, length written."
pub data RunOutcome (s before : List ℕ) (r : Report) (after : List ℕ) : Type 0 where
  refused : (a : Answer) (p : ℕ) → Refused rank (RunBad s (length before)) a p → r ≡ refusal a p → after ≡ before → RunOutcome s before r after
  accepted : (q : Request) (c : List ℕ) → Reads s q → ChosenCut q.graph q.rules q.orders c → ((a : Answer) (p : ℕ) → ¬ RunBad s (length before) a p)
      → r ≡ record { answer = 0; place = 0; fences = length c; weight = weight q.graph c; length = length (fenced_file q c) }
      → after ≡ over before (fenced_file q c) → RunOutcome s before r after

-- ---- ask

-- the same of ask
abbrev pub unshown : Answer → ℕ → Shown
unshown a p = record { answer = number a; place = p; length = 0 }

-- what ask returns where it succeeds or is refused
abbrev pub told : Result Shown Refusal → Shown
told (Ok r) = r
told (Err e) = unshown e.answer e.place

-- which of ask's answers apply where: 1 to 8 and 11
pub data AskBad (s : List ℕ) (k room : ℕ) : Answer → ℕ → Type 0 where
  in_file : {a : Answer} {p : ℕ} → Bad s a p → AskBad s k room a p
  -- "ask: no such order number"
  no_such_order : (q : Request) → Reads s q → length q.orders ≤ k → AskBad s k room NoSuchOrder 0
  -- "ask: buffer below 512 entries"
  too_short : room < most_nodes → AskBad s k room ShortBuffer 0

-- "Ask returns: answer, place, route length (the number of its nodes), and writes the node numbers of the route to a lent buffer of 16-bit numbers."
pub data AskOutcome (s : List ℕ) (k : ℕ) (before : List ℕ) (r : Shown) (after : List ℕ) : Type 0 where
  refused : (a : Answer) (p : ℕ) → Refused rank (AskBad s k (length before)) a p → r ≡ unshown a p → after ≡ before → AskOutcome s k before r after
  accepted : (q : Request) (route : List ℕ) → Reads s q → Asked q.graph q.rules (order q.orders k) route
      → ((a : Answer) (p : ℕ) → ¬ AskBad s k (length before) a p)
      → r ≡ record { answer = 0; place = 0; length = length route }
      → after ≡ over before route → AskOutcome s k before r after

-- ---- strip

-- which of strip's answers apply where: 1 to 7, 10 and 11
pub data StripBad (s : List ℕ) (count room : ℕ) : Answer → ℕ → Type 0 where
  in_file : {a : Answer} {p : ℕ} → Bad s a p → StripBad s count room a p
  -- "Any miss is refusal 10."
  not_loose : (q : Request) → Reads s q → ((total : ℕ) (h : Graph) → ¬ StripTo count q.orders q.graph total h) → StripBad s count room NotLoose 0
  -- "output shorter than what must be written"
  too_short : (q : Request) (total : ℕ) (h : Graph) → Reads s q → StripTo count q.orders q.graph total h → room < length (bytes (with_graph q h))
      → StripBad s count room ShortBuffer 0

-- "Strip's fences are those removed, its weight the sum of the weights of the pairs rejoined."
pub data StripOutcome (s : List ℕ) (count : ℕ) (before : List ℕ) (r : Report) (after : List ℕ) : Type 0 where
  refused : (a : Answer) (p : ℕ) → Refused rank (StripBad s count (length before)) a p → r ≡ refusal a p → after ≡ before → StripOutcome s count before r after
  accepted : (q : Request) (total : ℕ) (h : Graph) → Reads s q → StripTo count q.orders q.graph total h
      → ((a : Answer) (p : ℕ) → ¬ StripBad s count (length before) a p)
      → r ≡ record { answer = 0; place = 0; fences = length q.graph.nodes - count; weight = total; length = length (bytes (with_graph q h)) }
      → after ≡ over before (bytes (with_graph q h)) → StripOutcome s count before r after
