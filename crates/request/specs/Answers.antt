-- The refusals: their numbers, and which comes before which.
-- Assumes nothing.
use Rattle.std.specs.Prelude.{Err, Result, ℕ}
use Rattle.request.specs.declared.Answer.{Answer}
use Rattle.request.specs.declared.Answer.TheVariants.{Unreadable, TooMany, BadNode, BadEdge, BadRule, BadOrder, NoFenceRules, NoSuchOrder, NoRoom, NotLoose, ShortBuffer}
use Rattle.request.specs.declared.Counts.{Counts}
use Rattle.request.specs.declared.Refusal.{Refusal}

-- the first column of document 01's table
abbrev pub number : Answer → ℕ
number Unreadable = 1
number TooMany = 2
number BadNode = 3
number BadEdge = 4
number BadRule = 5
number BadOrder = 6
number NoFenceRules = 7
number NoSuchOrder = 8
number NoRoom = 9
number NotLoose = 10
number ShortBuffer = 11

-- "Where several apply, the lowest answer wins": the one of lowest rank
abbrev pub rank : Answer → ℕ
rank Unreadable = 0
rank TooMany = 1
rank BadNode = 2
rank BadEdge = 3
rank BadRule = 4
rank BadOrder = 5
rank NoFenceRules = 6
rank NoSuchOrder = 7
rank NoRoom = 8
rank NotLoose = 9
rank ShortBuffer = 10

-- a file refused with this answer at this place
abbrev pub refused : Answer → ℕ → Result Counts Refusal
refused a p = Err (record { answer = a; place = p })
