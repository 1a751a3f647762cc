-- `fencing::off::rejoin` meets its contract: the last node and the last edge go, and edge i takes the last one's end.
use Rattle.std.proofs.Common.{rules, get_or, length, ◌-◌, refl}
use Rattle.graph.specs.Graph.{no_edge}
use Rattle.fencing.proofs.Placed.{rejoin_made}
use Rattle.fencing.proofs.off.rejoin.Goals as goal

pub returns-clause-joined : goal.returns-clause-joined
returns-clause-joined c =
    rejoin_made c.args.g.now.nodes.items _ c.args.g.now.edges.items c.pop-2.new.self.items _ c.args.i (get_or c.args.g.now.edges.items (length c.args.g.now.edges.items - 1) no_edge)
    (search rules) (search rules) c.requires refl (rw (c.deref-2.ensures.0, c.deref.ensures.0, c.len.ensures.value) at c.set.ensures)
