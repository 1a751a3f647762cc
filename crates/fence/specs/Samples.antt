-- The samples of document 01 over files: what run, ask and strip return and write for each.
-- Assumes nothing.
use mathlib.Core.List.{List, Memᴰ}
use Rattle.std.specs.Prelude.{◌≡◌, ◌+◌, ◌≤◌, ℕ, length}
use Rattle.graph.specs.declared.Order.{Order}
use Rattle.request.specs.declared.Answer.TheVariants.{NotLoose}
use Rattle.outcome.specs.Outcome.{AskOutcome, RunOutcome, StripOutcome, fenced_file, over, refusal}
use Rattle.graph.specs.Cut.{weight}
use Rattle.graph.specs.Held.{Held}
use Rattle.graph.specs.Limits.{most_nodes}
use Rattle.graph.specs.Samples.{Claim, Sample, asked, long, no_route, not_off, off, ran, tied, twice}
use Rattle.graph.specs.Written.{written}
use Rattle.request.specs.File.{Request, bytes, request}

-- run on the file s is accepted, with so many fences of that weight, and writes the file t, wherever the buffer is long enough
abbrev pub RunsTo : List ℕ → (fences : ℕ) → (weight : ℕ) → List ℕ → Type 0
RunsTo s fences weight t = (before : List ℕ) → length t ≤ length before
    → RunOutcome s before (record { answer = 0; place = 0; fences = fences; weight = weight; length = length t }) (over before t)

-- likewise strip
abbrev pub StripsTo : List ℕ → (count : ℕ) → (fences : ℕ) → (weight : ℕ) → List ℕ → Type 0
StripsTo s count fences weight t = (before : List ℕ) → length t ≤ length before
    → StripOutcome s count before (record { answer = 0; place = 0; fences = fences; weight = weight; length = length t }) (over before t)

-- these orders are held; run puts in the cut's fences; and a second run returns what the first wrote
abbrev pub RunClaim : Request → List Order → List ℕ → ℕ → Type 0
RunClaim q held cut total =
    ((o : Order) → Memᴰ o held → Held q.graph q.rules o)
    × RunsTo (bytes q) (length cut) total (fenced_file q cut)
    × RunsTo (fenced_file q cut) 0 0 (fenced_file q cut)

-- what a sample claims of its file
abbrev pub FileClaim : Sample → Type 0
FileClaim (ran g rules orders held cut total) = RunClaim (request g rules orders) held cut total
FileClaim (asked g rules orders number route) = (before : List ℕ) → most_nodes ≤ length before
    → AskOutcome (bytes (request g rules orders)) number before (record { answer = 0; place = 0; length = length route }) (over before route)
FileClaim (off count rules orders g cut total) = StripsTo (fenced_file (request g rules orders) cut) count (length cut) total (bytes (request g rules orders))
FileClaim (tied g rules orders cut total) = Claim (tied g rules orders cut total)
FileClaim (no_route g a b) = Claim (no_route g a b)
FileClaim (long g rules orders size) = length (bytes (request g rules orders)) ≡ size
FileClaim (twice g rules orders later cut next total) =
    RunsTo (bytes (request g rules orders)) (length cut) (weight g cut) (bytes (request (written g cut) rules orders))
    × RunsTo (bytes (request (written g cut) rules later)) (length next) (weight (written g cut) next)
    (bytes (request (written (written g cut) next) rules later))
    × StripsTo (bytes (request (written (written g cut) next) rules later)) (length g.nodes) (length cut + length next) total (bytes (request g rules later))
FileClaim (not_off count rules orders g) = (before : List ℕ) → StripOutcome (bytes (request g rules orders)) count before (refusal NotLoose 0) before
