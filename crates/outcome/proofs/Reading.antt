-- What a file that is read gives: one request, no refusal of its records, and a graph by value that is ready.
-- Assumes nothing.
use mathlib.Core.List.{List, ◌++◌}
use mathlib.Core.Path.{◌∙◌, ◌≡◌, ap, refl, sym}
use Prim.Native.Nat.{ℕ}
use native.Mathlib.Omega.{arith}
use lib.ListN.{drop, length}
use Rattle.request.specs.declared.Answer.{Answer}
use Rattle.outcome.specs.Outcome.{over, with_graph}
use Rattle.fencing.specs.Kept.{Kept}
use Rattle.graph.specs.Graph.{Graph}
use Rattle.graph.specs.Value.{graph_of}
use Rattle.request.specs.Bad.{Bad}
use Rattle.request.specs.File.{Request}
use Rattle.request.specs.Proper.{counts_of, Reads}
use Rattle.writing.specs.Write.{Written}
use Rattle.request.proofs.Answered.{bytes_once, holds_clean}
use Rattle.graph.specs.declared.Graph as Value
use Rattle.request.specs.Value.{request_in}

-- a file is the bytes of one request only
pub reads_unique : {s : List ℕ} {q k : Request} → Reads s q → Reads s k → q ≡ k
reads_unique {s} {q} {k} x y = bytes_once q k (sym x.is_bytes ∙ y.is_bytes)

-- no answer from 1 to 7 applies to it
pub reads_clean : {s : List ℕ} {q : Request} → Reads s q → {a : Answer} {p : ℕ} → Bad s a p → ⊥
reads_clean {s} {q} x b = holds_clean s (counts_of q) q record { is_bytes = x.is_bytes; proper = x.proper; counts = refl } b

-- ---- writing over a buffer, and graphs that keep rules and orders

pub written_over : {before after xs : List ℕ} {n : ℕ} → Written before after 0 n xs → after ≡ over before xs
written_over {before} {after} {xs} {n} w = let e : n ≡ length xs = omega (arith, w.next) in w.bytes ∙ ap (λ (k : ℕ). xs ++ drop k before) e

pub kept_request : (g h : Value.Graph) → Kept g h → (w : Graph) → graph_of h ≡ w → request_in h ≡ with_graph (request_in g) w
kept_request g h kept w e = λ i. record {
  graph = e i;
  rules = ap (λ (l : _). l.items) kept.rules i;
  orders = ap (λ (l : _). l.items) kept.orders i;
}
