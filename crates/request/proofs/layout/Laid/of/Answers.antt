-- `request::layout::Laid::of` meets its contract.
-- Assumes nothing.
use Rattle.std.proofs.Common.{Err, arith, refl, sym, ap, ◌∙◌}
use Rattle.request.proofs.Readings.{end_whole, end_more, end_stop}
use Rattle.request.proofs.layout.Laid.of.Goals as goal

pub returns-then-not-has_record : goal.returns-then-not-has_record
returns-then-not-has_record c =
    end_stop _ c.count-end.ensures.counts c.count-end.ensures.end.0 (sym c.has_record.ensures ∙ c.if-not-has_record.true) ∙ ap Err (sym c.at.ensures)

pub returns-then-end-file : goal.returns-then-end-file
returns-then-end-file c =
    end_more _ c.count-end.ensures.counts c.count-end.ensures.end.0 (sym c.has_record.ensures ∙ c.if-not-has_record.false) c.if-end-file.true (omega arith)
    ∙ ap Err (sym c.at-then-end-file.ensures)

pub returns : goal.returns
returns c =
    (refl, end_whole _ c.count-end.ensures.counts c.count-end.ensures.end.0 (sym c.has_record.ensures ∙ c.if-not-has_record.false) c.if-end-file.false)
