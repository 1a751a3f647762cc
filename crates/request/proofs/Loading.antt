-- What an accepted file gives: its graph by value holds its request.
-- Assumes nothing.
use mathlib.Core.List.{List, map}
use mathlib.Core.Path.{◌∙◌, ◌≡◌, ap, subst⁻¹, sym}
use Prim.Native.Nat.{◌+◌, ℕ}
use native.Mathlib.Omega.{arith}
use lib.ListN.{length}
use Rattle.request.specs.declared.Counts.{Counts}
use Rattle.request.specs.declared.Mark.TheVariants.{Nd, Ed, Ru, Or}
use Rattle.std.specs.Prelude.{Ok}
use Rattle.graph.specs.Value.{labels, rules_of}
use Rattle.request.specs.Decode.{label_of_node, node_in, read_at, records_in, request_of, rule_of, rule_in, table}
use Rattle.request.specs.File.{bytes}
use Rattle.request.specs.Layout.{end_of, start_of}
use Rattle.request.specs.Value.{Ready, request_in}
use Rattle.request.specs.Proper.{Reads, Proper}
use Rattle.request.specs.Outcome.{Answered}
use Rattle.request.proofs.Answered.{holds_only, bytes-length}
use Rattle.request.proofs.Stored.{labels-table, table-map}
use Rattle.graph.specs.declared.Graph as Value

-- the records of an accepted file end where its EN begins
pub whole_ends : (s : List ℕ) (cs : Counts) → Answered s (Ok cs) → end_of cs + 2 ≡ length s
whole_ends s cs (r, H) = omega (arith, ap end_of H.counts, ap length H.is_bytes, bytes-length r)

-- lists that hold a file's tables are a graph by value that holds the file's request
pub decoded : (s : List ℕ) (cs : Counts) (g : Value.Graph) → Answered s (Ok cs)
    → g.nodes.items ≡ table node_in 4 s (start_of cs Nd) cs.nodes → g.edges.items ≡ records_in s cs Ed
    → g.rules.items ≡ table rule_in 6 s (start_of cs Ru) cs.rules → g.orders.items ≡ records_in s cs Or
    → Reads s (request_in g) × Ready g
decoded s cs g (k, H) n e r o = (reads, record { proper = reads.proper })
  where
    labelled : labels g.nodes.items ≡ map label_of_node (records_in s cs Nd)
    labelled = ap labels n ∙ labels-table s (start_of cs Nd) cs.nodes

    ruled : rules_of g ≡ map rule_of (records_in s cs Ru)
    ruled = r ∙ table-map rule_of (read_at Ru) 6 s (start_of cs Ru) cs.rules

    read : request_in g ≡ request_of s cs
    read = λ i. record { graph = record { nodes = labelled i; edges = e i }; rules = ruled i; orders = o i }

    reads : Reads s (request_in g)
    reads =
        let same : request_in g ≡ k = read ∙ holds_only s cs k H in
        record { is_bytes = H.is_bytes ∙ ap bytes (sym same); proper = subst⁻¹ Proper same H.proper }
