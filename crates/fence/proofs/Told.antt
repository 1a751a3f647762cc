-- What is returned or refused, as the numbers that are told.
-- Assumes nothing.
use Rattle.std.specs.Prelude.{Result, Ok, Err, ◌≡◌}
use Rattle.std.specs.Result.{MatchResult}
use Rattle.outcome.specs.declared.Report.{Report}
use Rattle.outcome.specs.declared.Shown.{Shown}
use Rattle.outcome.specs.Outcome.{refusal, reported, told, unshown}
use Rattle.request.specs.declared.Refusal.{Refusal}

pub as_report : (r : Result Report Refusal) (v : Report) → MatchResult r (λ x. v ≡ x) (λ e. v ≡ refusal e.answer e.place) → v ≡ reported r
as_report (Ok x) v h = h
as_report (Err e) v h = h

pub as_shown : (r : Result Shown Refusal) (v : Shown) → MatchResult r (λ x. v ≡ x) (λ e. v ≡ unshown e.answer e.place) → v ≡ told r
as_shown (Ok x) v h = h
as_shown (Err e) v h = h
