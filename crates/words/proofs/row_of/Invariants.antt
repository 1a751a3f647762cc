use Rattle.sets.specs.Whole.{whole, rows}
use Rattle.words.specs.Rows.{RowOf}
use Rattle.words.proofs.row_of.Given as goal

abbrev pub invariant-loop-i : goal.invariant-loop-i
invariant-loop-i l = RowOf (rows l.rights) l.rules l.l (whole l.close) l.i (whole l.row)
