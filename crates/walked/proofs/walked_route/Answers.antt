-- `walked::walked_route` meets its contract: the nodes of an unordered route, and then its edges.
-- Assumes nothing.
use Rattle.std.proofs.Common.{ap, replicate, ◌∙◌, arith, ◌≡◌, ◌+◌, ◌-◌, length}
use Rattle.graph.specs.Limits.{most_nodes}
use Rattle.sets.proofs.Rows.{rows_same}
use Rattle.route.specs.Way.{starts, ends}
use Rattle.walked.proofs.Edges.{none_found, stepped, some_found}
use Rattle.walked.proofs.walked_route.Goals as goal

pub left_of-requires-clause-empty : goal.left_of-requires-clause-empty
left_of-requires-clause-empty c = rows_same most_nodes _ ∙ ap (replicate most_nodes) c.none-succ.ensures

pub named-requires-clause-steps : goal.named-requires-clause-steps
named-requires-clause-steps c =
    let e = c.in-Some.ensures in let n = length c.in-Some.way.items - 1 in
    let all : n + 1 ≡ length c.in-Some.way.items = omega (arith, e.some_nodes) in
    rw c.deref.ensures.0
    (n, all, omega (arith, e.some_nodes), stepped (starts c.args.edges.now) (ends c.args.edges.now) c.args.left.now c.left_of.ensures e.by_tables all)

pub returns-in-Some : goal.returns-in-Some
returns-in-Some c =
    let e = c.in-Some.ensures in let named = rw c.deref.ensures.0 at c.named.ensures in
    some_found (starts c.args.edges.now) (ends c.args.edges.now) c.args.left.now c.left_of.ensures e.by_tables named.0 e.some_nodes.1 named.1

pub returns-in-None : goal.returns-in-None
returns-in-None c =
    rw c.clear.ensures
    (none_found (starts c.args.edges.now) (ends c.args.edges.now) c.args.left.now c.left_of.ensures c.in-None.ensures.by_tables)
