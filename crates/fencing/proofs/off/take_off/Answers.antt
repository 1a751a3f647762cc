-- `fencing::off::take_off` meets its contract: fence by fence, from the last; the nodes left fall.
use Rattle.std.proofs.Common.{rules, arith, ◌≡◌, ◌+◌, ◌<◌}
use Rattle.graph.specs.Graph.{edge}
use Rattle.graph.specs.Value.{graph_of}
use Rattle.fencing.proofs.Going.{going_start, going_more, going_stuck, going_end}
use Rattle.fencing.proofs.off.take_off.Goals as goal

pub loop-init : goal.loop-init
loop-init c = (omega (arith, c.requires, c.len-end.ensures.value), search rules, search rules, omega (arith, c.len-end.ensures.value), going_start c.args.g)

pub returns-in_default-clause-off : goal.returns-in_default-clause-off
returns-in_default-clause-off c =
    going_stuck c.loop.invariant.4 (omega (arith, c.loop.invariant.0, c.loop.invariant.3)) c.in_default.ensures

pub overflow_add-weight : goal.overflow_add-weight
overflow_add-weight c = let light = c.loop.invariant.4.light in let few = c.loop.invariant.1 in
    let small : c.rejoin.result < 65536 = search rules in search rules

pub loop-preserved : goal.loop-preserved
loop-preserved c =
    let small : (edge (graph_of c.loop.graph) c.in-Some.i).weight < 65536 = search rules in
    let taken : c.loop.weight + c.from-weight.result ≡ c.loop.weight + (edge (graph_of c.loop.graph) c.in-Some.i).weight = search rules in
    let more = going_more c.loop.invariant.4 (c.rejoin.ensures.joined, c.rejoin.ensures.kept) taken small c.in-Some.ensures in
    (omega (arith, c.loop-test.true), search rules, search rules, omega (arith, c.loop.invariant.3, more.1), more.0)

pub returns-clause-off : goal.returns-clause-off
returns-clause-off c = going_end c.loop.invariant.4 (omega (arith, c.loop.invariant.0, c.loop.invariant.3, c.loop-test.false))
