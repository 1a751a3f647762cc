use mathlib.Core.Path.{◌≡◌}
use lib.ListN.{length}
use Rattle.request.specs.Decode.{table}
use Rattle.request.specs.Layout.{start_of, width}
use Rattle.request.proofs.layout.Laid.fill.Given as goal

abbrev pub invariant-loop-i : goal.invariant-loop-i
invariant-loop-i g l =
    let r = g.R.Record in
    (length l.list.items ≡ l.i) × (l.list.items ≡ table r.in_file (width r.MARK) l.self.file.now (start_of l.self.counts r.MARK) l.i)
