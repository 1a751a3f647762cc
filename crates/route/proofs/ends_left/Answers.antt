-- `route::ends_left` meets its contract: nothing is left of the edges at the goal if the closure says so of each.
-- Assumes nothing.
use Rattle.std.proofs.Common.{rules, arith, ◌≤◌, get_or, sym, ◌∙◌, tests}
use Rattle.route.specs.Way.{ends, Remains}
use Rattle.route.proofs.Along.{none_from_any, passing_start}
use Rattle.route.proofs.Listed.{ends_all}
use Rattle.route.proofs.ends_left.Goals as goal

pub returns : goal.returns
returns c =
    let to = ends c.args.edges.now in let from = c.at.ensures in
    none_from_any to (Remains c.args.left.now) c.args.goal c.args.ins.now c.requires.2 c.any.new.self _ _ c.any.ensures.ran (λ x q k. (search rules, λ o. let z : get_or c.args.left.now x 0 ≤ 0 = search (rules, tests) in omega (arith, o, z)))
    ((from.0, from.1 ∙ sym (ends_all c.args.edges.now)), passing_start to (Remains c.args.left.now) c.args.goal c.args.ins.now c.requires.2 _ c.requires.1 from.2)
