-- Run over a graph by value: one law for each way out.
-- Assumes nothing.
use mathlib.Core.Bool.{Bool}
use mathlib.Core.List.{List}
use mathlib.Core.Logic.{inl, inr}
use mathlib.Core.Path.{◌∙◌, ◌≡◌, ap, sym}
use Prim.Native.Nat.{◌+◌, ◌<◌, ◌≤◌, ℕ}
use native.Mathlib.Omega.{arith}
use lib.ListN.{length}
use Rattle.request.specs.declared.Answer.{Answer}
use Rattle.request.specs.declared.Answer.TheVariants.{NoRoom, ShortBuffer}
use Rattle.cut.specs.Chosen.{Chosen}
use Rattle.outcome.specs.Outcome.{RunOutcome, fenced_file, over, refusal}
use Rattle.fencing.specs.Kept.{Kept}
use Rattle.lightest.specs.declared.Cut.{Cut}
use Rattle.lightest.specs.Made.{edges_of}
use Rattle.graph.specs.Cut.{ChosenCut, weight}
use Rattle.graph.specs.Limits.{most_edges, most_nodes}
use Rattle.graph.specs.Value.{graph_of, orders_of, rising, rules_of}
use Rattle.graph.specs.Written.{written}
use Rattle.request.specs.File.{bytes}
use Rattle.request.specs.Value.{request_in}
use Rattle.request.specs.Proper.{Reads}
use Rattle.writing.specs.Write.{Written, size_of}
use Rattle.outcome.proofs.Ran.{Crowded, run_accepted, run_crowded, run_short}
use Rattle.outcome.proofs.Reading.{kept_request, written_over}
use Rattle.graph.proofs.Value.{node_total}
use Rattle.writing.proofs.Writing.{bytes-size}
use Rattle.graph.specs.declared.Graph as Value

-- the chosen cut of a graph, its flags, and how many are set
pub record Counted (g : Value.Graph) (cut : Cut) (flags : List Bool) (k : ℕ) : Type 0 where
  pub best : Chosen g cut
  pub is : flags ≡ edges_of cut.chosen
  pub count : k ≡ length (rising 0 flags)

-- what is the case where run refuses
abbrev pub Refuses : Value.Graph → List ℕ → Answer → Type 0
Refuses g o a = (s : List ℕ) → Reads s (request_in g) → RunOutcome s o (refusal a 0) o

module _ {g : Value.Graph} {cut : Cut} {flags : List Bool} {k : ℕ} (c : Counted g cut flags k) where
  chosen : ChosenCut (graph_of g) (rules_of g) (orders_of g) (rising 0 flags)
  chosen = rw c.is c.best.best

  pub full_nodes : most_nodes < length g.nodes.items + k → {o : List ℕ} → Refuses g o NoRoom
  full_nodes h {o} s reads = run_crowded s (request_in g) (rising 0 flags) reads chosen o (inl (omega (arith, node_total g, c.count)))

  pub full_edges : most_edges < length g.edges.items + k → {o : List ℕ} → Refuses g o NoRoom
  full_edges h {o} s reads = run_crowded s (request_in g) (rising 0 flags) reads chosen o (inr (omega (arith, c.count)))

  module _ (few : length g.nodes.items + k ≤ most_nodes) (fewer : length g.edges.items + k ≤ most_edges) (h : Value.Graph)
      (same : graph_of h ≡ written (graph_of g) (rising 0 flags)) (kept : Kept g h) where
    uncrowded : Crowded (request_in g) (rising 0 flags) → ⊥
    uncrowded (inl x) = omega (arith, node_total g, c.count)
    uncrowded (inr x) = omega (arith, c.count)

    file : bytes (request_in h) ≡ fenced_file (request_in g) (rising 0 flags)
    file = ap bytes (kept_request g h kept (written (graph_of g) (rising 0 flags)) same)

    size : length (fenced_file (request_in g) (rising 0 flags)) ≡ size_of h
    size = sym (ap length file) ∙ bytes-size h

    pub short_buffer : {o : List ℕ} → length o < size_of h → Refuses g o ShortBuffer
    short_buffer {o} l s reads = run_short s (request_in g) (rising 0 flags) reads chosen o uncrowded (omega (arith, size))

    pub file-written : {o o' : List ℕ} {n : ℕ} → Written o o' 0 n (bytes (request_in h)) → (s : List ℕ) → Reads s (request_in g)
        → RunOutcome s o (record { answer = 0; place = 0; fences = k; weight = cut.weight; length = n }) o'
    file-written {o} {o'} {n} w s reads =
        let m : n ≡ length (fenced_file (request_in g) (rising 0 flags)) = omega (arith, w.next, ap length file) in
        let heavy : cut.weight ≡ weight (graph_of g) (rising 0 flags) = rw c.is c.best.sum in
        run_accepted s (request_in g) (rising 0 flags) reads chosen o uncrowded (omega (arith, w.room)) _ o'
        (λ i. record { answer = 0; place = 0; fences = c.count i; weight = heavy i; length = m i })
        (written_over w ∙ ap (over o) file)
