-- The samples of document 01 are true of the definitions: one test, computed.
-- Assumes nothing.
use mathlib.Core.Bool.{Bool, ◌&&◌, not, false}
use mathlib.Core.List.{List, [], Memᴰ}
use mathlib.Core.Path.{refl}
use Prim.Native.Nat.{ℕ, ◌+◌, ◌*◌}
use native.Mathlib.Omega.{arith}
use lib.Dec.{T, eqb, ltb}
use lib.ListN.{length}
use Rattle.graph.specs.declared.Order.{Order}
use Rattle.graph.specs.declared.Rule.{Rule}
use Rattle.graph.specs.Cut.{weight, total}
use Rattle.graph.specs.Graph.{Graph, order}
use Rattle.graph.specs.Samples.{Sample, ran, asked, off, not_off, tied, no_route, long, twice, Claim, samples, more_samples}
use Rattle.graph.specs.Strip.{Stripped, AllName}
use Rattle.graph.specs.Written.{written}
use Rattle.graph.proofs.Decide.{soundb, sound_so, heldb, says_held, separatesb, bestb, says_cut, says_separates, askedb, asked_so, risingb, says_rising}
use Rattle.graph.proofs.Route.{every_route, says_every_route}
use Rattle.graph.proofs.Runs.{written_nodes, written_sound}
use Rattle.graph.proofs.Says.{Says, says_T, says_no, says_and, says_not, says_eq, says_lt, says_every, both, everyb}
use Rattle.graph.proofs.Strip.{stripped_fewer, stripped_trans, stripped_written}
use Rattle.graph.proofs.Written.{rising_within}

abbrev chosenb : Graph → List Rule → List Order → List ℕ → Bool
chosenb g rules orders cut = bestb (separatesb g rules orders) (weight g) (length g.edges) cut

abbrev ranb : Graph → List Rule → List Order → List Order → List ℕ → ℕ → Bool
ranb g rules orders held cut total =
    everyb (λ o. heldb g rules [] o.first o.second) held && (chosenb g rules orders cut && eqb (weight g cut) total)

abbrev namesb : ℕ → List Order → Bool
namesb n orders = everyb (λ o. ltb o.first n && ltb o.second n) orders

says_names : (n : ℕ) (orders : List Order) → Says (namesb n orders) (AllName n orders)
says_names n orders = says_every (λ o. says_and (says_lt o.first n) (says_lt o.second n)) orders

abbrev offb : ℕ → List Order → Graph → List ℕ → ℕ → Bool
offb count orders g cut total = namesb count orders && (risingb 0 (length g.edges) cut && (eqb total (weight g cut) && eqb (length g.nodes) count))

abbrev cutb : Graph → List Rule → List Order → List ℕ → Bool
cutb g rules orders cut = risingb 0 (length g.edges) cut && separatesb g rules orders cut

abbrev twiceb : Graph → List Rule → List Order → List Order → List ℕ → List ℕ → ℕ → Bool
twiceb g rules orders later cut next total =
    chosenb g rules orders cut && (chosenb (written g cut) rules later next &&
    (namesb (length g.nodes) later && eqb total (weight (written g cut) next + weight g cut)))

abbrev sampleb : Sample → Bool
sampleb (ran g rules orders held cut total) = soundb g && ranb g rules orders held cut total
sampleb (asked g rules orders number route) = soundb g && askedb g rules (order orders number) route
sampleb (off count rules orders g cut total) = soundb g && offb count orders g cut total
sampleb (not_off count rules orders g) = not (namesb count orders)
sampleb (tied g rules orders cut total) = soundb g && (cutb g rules orders cut && eqb (weight g cut) total)
sampleb (no_route g a b) = soundb g && every_route g [] a b (λ between. false)
sampleb (long g rules orders size) = eqb (length g.nodes * 4 + length g.edges * 8 + length rules * 6 + length orders * 6 + 2) size
sampleb (twice g rules orders later cut next total) = soundb g && twiceb g rules orders later cut next total

sample_so : (s : Sample) → T (sampleb s) → Claim s
sample_so (ran g rules orders held cut total) t =
    let p = both (soundb g) (ranb g rules orders held cut total) t in let sound = sound_so g p.0 in
    let r = (says_and (says_every (λ o. says_held g rules sound [] o.first o.second) held)
    (says_and (says_cut g rules sound orders cut) (says_eq (weight g cut) total))).so p.1 in
    (sound, r.0, r.1.0, r.1.1)
sample_so (asked g rules orders number route) t =
    let p = both (soundb g) (askedb g rules (order orders number) route) t in
    (sound_so g p.0, asked_so g rules (sound_so g p.0) (order orders number) route p.1)
sample_so (off count rules orders g cut total) t =
    let p = both (soundb g) (offb count orders g cut total) t in
    let q = (says_and (says_names count orders) (says_and (says_rising 0 (length g.edges) cut)
    (says_and (says_eq total (weight g cut)) (says_eq (length g.nodes) count)))).so p.1 in
    let w = rising_within 0 (length g.edges) cut q.1.0 in
    record {
      enough = omega (arith, written_nodes g cut w, q.1.1.1);
      names = q.0;
      stripped = rw q.1.1.0 (stripped_written g cut (sound_so g p.0) w);
      left = q.1.1.1;
    }
sample_so (not_off count rules orders g) t = λ total left s. (says_not (says_names count orders)).so t s.names
sample_so (tied g rules orders cut total) t =
    let p = both (soundb g) (cutb g rules orders cut && eqb (weight g cut) total) t in
    let q = (says_and (says_and (says_rising 0 (length g.edges) cut) (says_separates g rules (sound_so g p.0) orders cut)) (says_eq (weight g cut) total)
    ).so p.1 in
    (record { rising = q.0.0; separates = q.0.1 }, q.1)
sample_so (no_route g a b) t =
    let p = both (soundb g) (every_route g [] a b (λ between. false)) t in
    (says_every_route g [] (sound_so g p.0) a b {P = λ between. ⊥} (λ l. says_no (λ x. x))).so p.1
sample_so (long g rules orders size) t = (says_eq (length g.nodes * 4 + length g.edges * 8 + length rules * 6 + length orders * 6 + 2) size).so t
sample_so (twice g rules orders later cut next total) t =
    let p = both (soundb g) (twiceb g rules orders later cut next total) t in let sound = sound_so g p.0 in
    let r = both (chosenb g rules orders cut)
    (chosenb (written g cut) rules later next && (namesb (length g.nodes) later && eqb total (weight (written g cut) next + weight g cut))) p.1 in
    let first = (says_cut g rules sound orders cut).so r.0 in
    let w = rising_within 0 (length g.edges) cut first.among.rising in
    let sounder = written_sound g cut w sound in
    let q = (says_and (says_cut (written g cut) rules sounder later next)
    (says_and (says_names (length g.nodes) later) (says_eq total (weight (written g cut) next + weight g cut)))).so r.1 in
    let strip : Stripped (written (written g cut) next) total g = rw q.1.1 (stripped_trans (stripped_written (written g cut) next sounder
    (rising_within 0 (length (written g cut).edges) next q.0.among.rising)) (stripped_written g cut sound w)) in
    (first, q.0, record { enough = stripped_fewer strip; names = q.1.0; stripped = strip; left = refl })

pub samples_true : (s : Sample) → Memᴰ s samples → Claim s
samples_true s m = sample_so s ((says_every (λ x. says_T (sampleb x)) samples).so tt s m)

pub more_true : (s : Sample) → Memᴰ s more_samples → Claim s
more_true s m = sample_so s ((says_every (λ x. says_T (sampleb x)) more_samples).so tt s m)
