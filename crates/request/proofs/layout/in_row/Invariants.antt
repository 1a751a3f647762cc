use Prim.Native.Nat.{◌-◌}
use lib.ListN.{length, get_or}
use Rattle.request.proofs.Recorded.{Counting}
use Rattle.request.proofs.layout.in_row.Given as goal

abbrev pub invariant-loop-letters : goal.invariant-loop-letters
invariant-loop-letters l = Counting (get_or l.letters 0 0) (get_or l.letters 1 0) l.size l.file l.at l.k l.p

abbrev pub decreases-loop-letters : goal.decreases-loop-letters
decreases-loop-letters l = length l.file - l.p
