use Prim.Native.Nat.{ℕ, ◌<◌}
use mathlib.Core.Path.{◌≡◌}
use lib.ListN.{length, get_or}
use Rattle.sets.specs.Whole.{words}
use Rattle.sets.proofs.by_words.Given as goal

abbrev pub invariant-loop-i : goal.invariant-loop-i
invariant-loop-i g l = (length l.made ≡ words) × ((j : ℕ) → j < l.i → g.F.Fn.post l.op (get_or l.a j 0, (get_or l.b j 0, tt)) (get_or l.made j 0))
