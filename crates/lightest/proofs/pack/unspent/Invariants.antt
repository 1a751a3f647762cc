use Rattle.std.proofs.Common.{ℕ, ◌<◌, get_or}
use Rattle.route.specs.Way.{weights}
use Rattle.lightest.specs.Made.{edges_of}
use Rattle.lightest.proofs.Residues.{Spared}
use Rattle.lightest.proofs.pack.unspent.Given as goal

abbrev pub invariant-loop-e : goal.invariant-loop-e
invariant-loop-e l = record {
  spared : Spared (weights l.edges) (edges_of l.chosen) l.left l.e;
  light : (k : ℕ) → k < l.e → get_or (weights l.edges) k 0 < 65536;
}
