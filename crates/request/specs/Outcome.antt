-- What reading gives, in document 01's words.
-- Assumes nothing.
use Rattle.std.specs.Prelude.{List, ℕ}
use Rattle.request.specs.declared.Counts.{Counts}
use Rattle.request.specs.declared.Refusal.{Refusal}
use Rattle.std.specs.Prelude.{Result, Ok, Err}
use Rattle.request.specs.Answers.{rank}
use Rattle.request.specs.Bad.{Bad}
use Rattle.request.specs.File.{Request}
use Rattle.request.specs.Proper.{Holds}
use Rattle.graph.specs.Refusal as refusal

-- counts: the file is the bytes of a proper request. Refusal: "Where several apply, the lowest answer wins, and within it the earliest place."
abbrev pub Answered : List ℕ → Result Counts Refusal → Type 0
Answered s (Ok cs) = (r : Request) × Holds s cs r
Answered s (Err e) = refusal.Refused rank (Bad s) e.answer e.place
