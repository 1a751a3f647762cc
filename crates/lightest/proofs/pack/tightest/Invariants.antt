use Rattle.std.proofs.Common.{◌≡◌, ℕ, ◌<◌, ◌≤◌, length, get_or}
use Rattle.lightest.proofs.pack.tightest.Given as goal

abbrev pub invariant-loop-e : goal.invariant-loop-e
invariant-loop-e l = record {
  on : (k : ℕ) × (k < length l.route) × (get_or l.route k 0 ≡ l.best);
  least : (k : ℕ) → k < l.e-index → get_or l.left l.best 0 ≤ get_or l.left (get_or l.route k 0) 0;
}
