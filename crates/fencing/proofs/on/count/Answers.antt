-- `fencing::on::count` meets its contract: the rising list is as long as flags are set.
use Rattle.std.proofs.Common.{rules, sym, ◌∙◌}
use Rattle.std.proofs.iter.runs.Made.{chains}
use Rattle.fencing.proofs.Flags.{rising_count}
use Rattle.fencing.proofs.on.count.Goals as goal

pub returns-clause-set : goal.returns-clause-set
returns-clause-set c = search (rules, chains) ∙ sym (rising_count c.args.flags.now)
