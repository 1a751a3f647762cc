-- What a look ahead says: that no way goes on.
-- Assumes nothing.
use Rattle.std.specs.Prelude.{List, ℕ}
use Rattle.sets.specs.Whole.{whole, rows}
use Rattle.step.specs.Rest.{GoesOn}
use Rattle.hope.specs.declared.Aim.{Aim}
use Rattle.hope.specs.declared.Trail.{Trail}

-- no route goes on from v, its last node, to the goal and leaves its ends unordered
abbrev pub NoWay : Aim → Trail → ℕ → Type 0
NoWay aim trail v = (l : List ℕ) → GoesOn (rows aim.succ.now) (rows aim.fits.now) aim.goal (whole trail.visited) (whole trail.after) v l → ⊥
