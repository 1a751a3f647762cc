-- `lightest::Cut::flags` meets its contract: flag by flag.
use Rattle.std.proofs.Common.{rules, tests}
use Rattle.graph.specs.Limits.{most_edges}
use Rattle.sets.specs.Whole.{whole}
use Rattle.lightest.proofs.Flags.{flags_made}
use Rattle.lightest.proofs.Cut.flags.Goals as goal

pub returns : goal.returns
returns c = flags_made (whole c.args.self.chosen) (λ i y q k. search (rules, tests)) most_edges _ c.from_fn.ensures.items
