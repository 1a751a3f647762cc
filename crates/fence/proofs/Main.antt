-- All that is promised, each by one citation. The definitions: outcome/specs/Outcome, fence/specs/Demands, and what they cite (docs/PROMISES.md lists them).
-- That run, ask and strip return for every input, and what is said here of outcomes holds of them, are their contracts (src/lib.rt), which require nothing.
-- Assumes nothing.
use mathlib.Core.List.{List, Memᴰ, ◌++◌}
use mathlib.Core.Logic.{◌⊎◌}
use mathlib.Core.Path.{◌≡◌}
use Prim.Native.Nat.{◌+◌, ◌*◌, ℕ}
use lib.ListN.{length}
use Rattle.outcome.specs.declared.Report.{Report}
use Rattle.outcome.specs.declared.Shown.{Shown}
use Rattle.graph.specs.declared.Order.{Order}
use Rattle.graph.specs.declared.Rule.{Rule}
use Rattle.request.specs.declared.Answer.{Answer}
use Rattle.fence.specs.Demands.{Accepted, Demand2, Demand3, Forgotten, Runs}
use Rattle.outcome.specs.Outcome.{AskBad, AskOutcome, RunBad, RunOutcome, StripBad, StripOutcome, refusal, unshown}
use Rattle.fence.specs.Samples.{FileClaim}
use Rattle.graph.specs.Cut.{ChosenCut}
use Rattle.graph.specs.Graph.{Graph, Sound}
use Rattle.graph.specs.Refusal.{Refused}
use Rattle.graph.specs.Samples.{Sample, more_samples, samples}
use Rattle.request.specs.Answers.{rank}
use Rattle.request.specs.File.{Request}
use Rattle.request.specs.Proper.{Reads}
use Rattle.outcome.proofs.Unique as unique
use Rattle.outcome.proofs.Refusals as refusals
use Rattle.fence.proofs.Demands as demands
use Rattle.fence.proofs.Samples as examples

-- ---- no second outcome: numbers and buffer

pub one_run : {s lent : List ℕ} {r v : Report} {x y : List ℕ} → RunOutcome s lent r x → RunOutcome s lent v y → (r ≡ v) × (x ≡ y)
one_run = unique.run_unique

pub one_ask : {s : List ℕ} {k : ℕ} {lent : List ℕ} {r v : Shown} {x y : List ℕ} → AskOutcome s k lent r x → AskOutcome s k lent v y → (r ≡ v) × (x ≡ y)
one_ask = unique.ask_unique

pub one_strip : {s : List ℕ} {count : ℕ} {lent : List ℕ} {r v : Report} {x y : List ℕ} → StripOutcome s count lent r x → StripOutcome s count lent v y
    → (r ≡ v) × (x ≡ y)
one_strip = unique.strip_unique

-- ---- demand 1: "A refusal gives its number and place, zeros for the other results, and writes nothing."

pub run_refuses : {s lent : List ℕ} {r : Report} {x : List ℕ} → RunOutcome s lent r x
    → (r.answer ≡ 0) ⊎ ((a : Answer) × (p : ℕ) × Refused rank (RunBad s (length lent)) a p × (r ≡ refusal a p) × (x ≡ lent))
run_refuses = refusals.run_refuses

pub ask_refuses : {s : List ℕ} {k : ℕ} {lent : List ℕ} {r : Shown} {x : List ℕ} → AskOutcome s k lent r x
    → (r.answer ≡ 0) ⊎ ((a : Answer) × (p : ℕ) × Refused rank (AskBad s k (length lent)) a p × (r ≡ unshown a p) × (x ≡ lent))
ask_refuses = refusals.ask_refuses

pub strip_refuses : {s : List ℕ} {count : ℕ} {lent : List ℕ} {r : Report} {x : List ℕ} → StripOutcome s count lent r x
    → (r.answer ≡ 0) ⊎ ((a : Answer) × (p : ℕ) × Refused rank (StripBad s count (length lent)) a p × (r ≡ refusal a p) × (x ≡ lent))
strip_refuses = refusals.strip_refuses

-- ---- demands 2 and 3

pub one_cut : (g : Graph) (rules : List Rule) → Sound g → (orders : List Order)
    → (c : List ℕ) × ChosenCut g rules orders c × ((d : List ℕ) → ChosenCut g rules orders d → d ≡ c)
one_cut = unique.one_cut

pub demand_2 : {s t : List ℕ} {q : Request} {r : Report} → Accepted s q r t → (c : List ℕ) × Demand2 s q r t c
demand_2 = demands.demand_2

pub demand_3 : {rules : List Rule} {first last : Graph} {asked : List Order} {fences weight : ℕ}
    → Runs (length first.nodes) rules first asked fences weight last → Demand3 rules first asked fences weight last
demand_3 = demands.demand_3

-- "the number of nodes added", and each fence adds 12 bytes
pub fences_told : {s t : List ℕ} {q p : Request} {r : Report} → Accepted s q r t → Reads t p → length p.graph.nodes ≡ length q.graph.nodes + r.fences
fences_told = demands.fences_told

pub twelve_bytes : {s t : List ℕ} {q : Request} {r : Report} → Accepted s q r t → length t ≡ length s + 12 * r.fences
twelve_bytes = demands.twelve_bytes

pub history_does_not_matter : {rules : List Rule} {first last : Graph} {asked : List Order} {fences weight : ℕ}
    → Runs (length first.nodes) rules first asked fences weight last → Forgotten rules first last
history_does_not_matter = demands.history

-- ---- P1 to P12, and what the plausible wrong programs get wrong

pub samples_hold : (s : Sample) → Memᴰ s (samples ++ more_samples) → FileClaim s
samples_hold = examples.files_true
