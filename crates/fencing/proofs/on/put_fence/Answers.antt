-- `fencing::on::put_fence` meets its contract: the node and the edge added have room.
use Rattle.std.proofs.Common.{rules}
use Rattle.fencing.proofs.Placed.{fence_put}
use Rattle.fencing.proofs.on.put_fence.Goals as goal

pub returns-clause-fenced : goal.returns-clause-fenced
returns-clause-fenced c =
    let edges = rw (c.set.ensures, c.deref.ensures.0) at c.push-2.ensures.items in
    fence_put c.args.g.now.nodes.items _ c.args.g.now.edges.items _ c.args.i c.len-fence.result (search rules) (search rules) edges
