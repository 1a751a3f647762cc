-- `fencing::off::names_above` meets its contract: `any` finds an order that names too high a node.
use Rattle.std.proofs.Common.{rules}
use Rattle.std.proofs.iter.runs.Made.{chains}
use Rattle.fencing.proofs.Named.{named_above}
use Rattle.fencing.proofs.off.names_above.Goals as goal

pub returns : goal.returns
returns c = named_above c.args.c c.args.orders.now c.any.result (search (rules, chains)) (search (rules, chains))
