-- `route::Links::by_starts` meets its contract: an edge starts at a node.
-- Assumes nothing.
use Rattle.std.proofs.Common.{arith, ap}
use Rattle.graph.specs.declared.Edge.{Edge}
use Rattle.route.proofs.Listed.{start_of}
use Rattle.route.proofs.Links.by_starts.Goals as goal

pub link-requires-clause-within : goal.link-requires-clause-within
link-requires-clause-within c e v h r =
    omega (arith, c.requires.1 e h, start_of c.args.edges.now e, r.says.met, ap (λ (x : Edge). x.from) r.shows)
