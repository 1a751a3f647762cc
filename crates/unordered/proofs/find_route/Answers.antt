-- `unordered::find_route` meets its contract: no way at all, a shortest route that is judged unordered, or what the pairs say.
use Rattle.std.proofs.Common.{arith, rules}
use Rattle.std.proofs.lemmas.Grind.{common_steps}
use Rattle.unordered.proofs.Ways.{wayless, judged_found}
use Rattle.unordered.proofs.find_route.Goals as goal

pub returns-then-is_empty : goal.returns-then-is_empty
returns-then-is_empty c = wayless c.find_route.ensures (grind (arith, common_steps)) (grind (arith, common_steps))

pub returns-then-judged : goal.returns-then-judged
returns-then-judged c = search (rules, judged_found)
