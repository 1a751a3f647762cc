-- `walk::open_orders` meets its contract: order by order.
use Rattle.std.proofs.Common.{arith, ◌≤◌, ◌<◌, length, length-set, ap, ◌∙◌}
use Rattle.graph.specs.Limits.{most_nodes}
use Rattle.graph.specs.Value.{graph_of}
use Rattle.graph.proofs.Counted.{all_ends, all_named}
use Rattle.graph.proofs.Value.{node_total}
use Rattle.sets.specs.Whole.{rows}
use Rattle.words.proofs.Made.{words_made}
use Rattle.walk.proofs.Judged.{judged_more, judged_told}
use Rattle.walk.proofs.open_orders.Goals as goal

pub succ_of-succ-requires : goal.succ_of-succ-requires
succ_of-succ-requires c =
    let g = c.args.g.now in
    let few : length (graph_of g).nodes ≤ most_nodes = omega (arith, node_total g, c.len-n.ensures.value, c.len-n.ensures.fits) in
    (c.deref.ensures.1, rw c.deref.ensures.0 (all_ends g few c.requires.sound.0))

pub open_route-way-requires : goal.open_route-way-requires
open_route-way-requires c =
    let g = c.args.g.now in
    let few : length (graph_of g).nodes ≤ most_nodes = omega (arith, node_total g, c.len-n.ensures.value, c.len-n.ensures.fits) in
    let ends = all_named g few c.requires.sound.1 c.loop-i.i (rw c.deref-order-items.ensures.0 at c.loop-i-test.true) in
    (c.len-n.ensures.fits, rw (c.from.ensures, c.deref-order-items.ensures.0) ends.0, rw (c.from-in-loop-i.ensures, c.deref-order-items.ensures.0) ends.1)

pub loop-i-preserved : goal.loop-i-preserved
loop-i-preserved c =
    let i = c.loop-i.i in let flags = c.loop-i.«open» in let orders = c.deref-order-items.ensures in
    let room : i < length flags = omega (arith, c.loop-i.invariant.0, c.loop-i-test.true, orders.1) in
    let asked = rw (c.from.ensures, c.from-in-loop-i.ensures, orders.0) at c.open_route-way.ensures.asked in (
      length-set flags i _ ∙ c.loop-i.invariant.0,
      judged_more _ (rows c.succ_of-succ.result) (rows c.args.fits.now) c.args.g.now.orders.items flags i c.open_route-way.result _ (grind (arith, c.is_some.ensures))
          c.loop-i.invariant.1 room c.open_route-way.ensures.some_nodes asked,
    )

pub returns : goal.returns
returns c =
    let g = c.args.g.now in let succ = rows c.succ_of-succ.result in let fits = rows c.args.fits.now in
    judged_told g succ fits c.loop-i.«open»
    (words_made g c.requires.sound.0 succ fits (rw c.deref.ensures.0 at c.succ_of-succ.ensures) c.requires.fitted)
    (λ j h. c.loop-i.invariant.1 j (omega (arith, h, c.loop-i-test.false, ap length c.deref-order-items.ensures.0)))
