-- `request::layout::Laid::fill` meets its contract.
-- Assumes nothing.
use Rattle.std.proofs.Common.{add-one, arith, refl, sym, ap, ap₂, [], ◌∷◌, ◌++◌, ◌+◌, ◌*◌, ◌∙◌}
use Rattle.request.specs.declared.Mark.{Mark}
use Rattle.request.specs.Layout.{start_of, width}
use Rattle.request.proofs.Stored.{table_more, table_none}
use Rattle.request.proofs.layout.Laid.fill.Goals as goal

pub loop-i-init : goal.loop-i-init
loop-i-init g c = let e = c.requires.0 in (rw e refl, e ∙ sym (table_none _ _ _ _))

pub loop-i-preserved : goal.loop-i-preserved
loop-i-preserved g c =
    let i = c.loop-i.i in
    let at = c.at.ensures.offset ∙ ap (λ (m : Mark). start_of c.args.self.now.counts m + i * width m) c.MARK-in-loop-i.ensures in
    let read = c.at-in-loop-i.ensures ∙ ap (g.R.Record.in_file c.args.self.now.file.now) at in (
      omega (arith, c.push.ensures.len),
      rw add-one (c.push.ensures.items ∙ ap₂ (λ a b. a ++ (b ∷ [])) c.loop-i.invariant.1 read ∙ sym (table_more _ _ _ _ i)),
    )
