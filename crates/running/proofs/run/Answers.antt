-- `running::run` meets its contract: the open orders, their chosen cut, then one case for each answer.
use Rattle.std.proofs.Common.{arith, ℕ, List, Bool, ◌≡◌, length}
use Rattle.cut.specs.Chosen.{Chosen}
use Rattle.lightest.specs.declared.Cut.{Cut}
use Rattle.lightest.specs.Made.{edges_of}
use Rattle.graph.specs.Value.{rising}
use Rattle.running.proofs.Fenced.{Counted, full_nodes, full_edges, short_buffer, file-written}
use Rattle.graph.specs.declared.Graph as Value
use Rattle.running.proofs.run.Goals as goal

-- what is known once the fences are counted
counted : {g : Value.Graph} {cut : Cut} {flags : List Bool} {k : ℕ} → Chosen g cut → flags ≡ edges_of cut.chosen → k ≡ length (rising 0 flags)
    → Counted g cut flags k
counted best is count = record { best = best; is = is; count = count }

pub returns-then-len-fences-gt-NODES : goal.returns-then-len-fences-gt-NODES
returns-then-len-fences-gt-NODES c =
    rw c.at.ensures
    (full_nodes (counted c.chosen_cut-cut.ensures c.flags-chosen.ensures c.count-fences.ensures.set) (omega arith))

pub returns-then-len-fences-gt-EDGES : goal.returns-then-len-fences-gt-EDGES
returns-then-len-fences-gt-EDGES c =
    rw c.at-then-len-fences-gt-EDGES.ensures
    (full_edges (counted c.chosen_cut-cut.ensures c.flags-chosen.ensures c.count-fences.ensures.set) (omega arith))

pub returns-then-out-size_of : goal.returns-then-out-size_of
returns-then-out-size_of c =
    rw c.at-then-out-size_of.ensures
    (short_buffer (counted c.chosen_cut-cut.ensures c.flags-chosen.ensures c.count-fences.ensures.set) (omega arith) (omega arith) c.put_on-fenced.result
    c.put_on-fenced.ensures.fenced c.put_on-fenced.ensures.kept (omega (arith, c.size_of.ensures)))

pub returns : goal.returns
returns c =
    rw (c.done.ensures, c.from.ensures)
    (file-written (counted c.chosen_cut-cut.ensures c.flags-chosen.ensures c.count-fences.ensures.set) (omega arith) (omega arith) c.put_on-fenced.result
    c.put_on-fenced.ensures.fenced c.put_on-fenced.ensures.kept c.write_request-length.ensures.written)
