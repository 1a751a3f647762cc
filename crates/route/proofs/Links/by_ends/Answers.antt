-- `route::Links::by_ends` meets its contract: an edge ends at a node.
-- Assumes nothing.
use Rattle.std.proofs.Common.{arith, ap}
use Rattle.graph.specs.declared.Edge.{Edge}
use Rattle.route.proofs.Listed.{end_of}
use Rattle.route.proofs.Links.by_ends.Goals as goal

pub link-requires-clause-within : goal.link-requires-clause-within
link-requires-clause-within c e v h r =
    omega (arith, c.requires.1 e h, end_of c.args.edges.now e, r.says.met, ap (λ (x : Edge). x.to) r.shows)
