-- `unordered::pairs::Pairs::add` meets its contract: the new pair is the last of its node.
use Rattle.std.proofs.Common.{length, refl, rules, ◌≡◌}
use Rattle.graph.specs.Limits.{most_nodes}
use Rattle.unordered.proofs.Chained.{chained_push}
use Rattle.unordered.proofs.pairs.Pairs.add.Goals as goal

pub invariant_of-self : goal.invariant_of-self
invariant_of-self c =
    let s = c.args.self.now in
    let room : length s.last ≡ most_nodes = search rules in
    record { chained = rw (c.push.ensures.items, c.len-n.ensures.value) (chained_push s.chained _ c.requires.known.0 room refl) }
