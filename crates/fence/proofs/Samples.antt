-- The samples of document 01 are true of files: their requests are proper by one test, computed.
-- Assumes nothing.
use mathlib.Core.Bool.{Bool, ◌&&◌, true}
use mathlib.Core.List.Memᴰ
use mathlib.Core.List.{List, Memᴰ, [], ◌++◌, ◌∷◌, flat_map}
use mathlib.Core.Logic.{◌⊎◌, inl, inr}
use mathlib.Core.Path.{◌∙◌, ◌≡◌, refl, subst}
use Prim.Native.Nat.{◌+◌, ◌-◌, ◌≤◌, ℕ}
use native.Mathlib.Omega.{arith}
use lib.Dec.{T, eqb, leb, ltb}
use lib.ListN.{length}
use Rattle.fence.specs.Demands.{Demand2}
use Rattle.outcome.specs.declared.Report.{Report}
use Rattle.outcome.specs.Outcome.{RunOutcome, fenced_file, over, with_graph}
use Rattle.fence.specs.Samples.{FileClaim, RunsTo, StripsTo}
use Rattle.graph.specs.Cut.{ChosenCut, weight}
use Rattle.graph.specs.Limits.{most_edges, most_nodes}
use Rattle.graph.specs.Samples.{Claim, d_of, d_orders, d_rules, Sample, asked, long, more_samples, no_route, not_off, off, or, ran, samples, tied, twice}
use Rattle.graph.specs.Written.{written}
use Rattle.request.specs.File.{Request, bytes, request}
use Rattle.request.specs.Layout.{count_in, end_check, in_row, record_at}
use Rattle.request.specs.Earliest.{any, earliest_from}
use Rattle.request.specs.Tables.{bad_edge, bad_left, bad_node, bad_order, bad_right, bad_rule, checked, leads, listed, no_fences, reading_of, repeated, same_pair}
use Rattle.fence.proofs.Demands.{cut_demand, run_idle}
use Rattle.outcome.proofs.Off.{strip_accepted, strip_stuck}
use Rattle.outcome.proofs.Ran.{Crowded, run_accepted}
use Rattle.outcome.proofs.Showing.{ask_accepted}
use Rattle.graph.proofs.Samples.{more_true, samples_true}
use Rattle.graph.proofs.Says.{says_T, says_and, says_eq, says_every, says_le, says_lt}
use Rattle.request.proofs.Answered.{bytes-length}
use Rattle.request.proofs.Computed.{read_proper, readb}
use Rattle.request.specs.Proper.{Reads}

-- the request is read from its bytes, and the cut's fences fit
abbrev fitsb : Request → List ℕ → Bool
fitsb q cut = readb q && (leb (length q.graph.nodes + length cut) most_nodes && leb (length q.graph.edges + length cut) most_edges)

-- likewise of a sample: the order is there, and strip takes off as many as were put on
abbrev fileb : Sample → Bool
fileb (ran g rules orders held cut total) = fitsb (request g rules orders) cut
fileb (asked g rules orders number route) = readb (request g rules orders) && ltb number (length orders)
fileb (off count rules orders g cut total) = readb (request (written g cut) rules orders) && eqb (length cut) (length (written g cut).nodes - count)
fileb (not_off count rules orders g) = readb (request g rules orders)
fileb (tied g rules orders cut total) = true
fileb (no_route g a b) = true
fileb (long g rules orders size) = true
fileb (twice g rules orders later cut next total) =
    fitsb (request g rules orders) cut && (fitsb (request (written g cut) rules later) next && (readb (request (written (written g cut) next) rules later)
    && eqb (length cut + length next) (length (written (written g cut) next).nodes - length g.nodes)))

reads_of : (q : Request) → T (readb q) → Reads (bytes q) q
reads_of q t = record { is_bytes = refl; proper = read_proper q t }

-- an accepted run for the chosen cut
module _ (q : Request) (cut : List ℕ) (chosen : ChosenCut q.graph q.rules q.orders cut) (t : T (fitsb q cut)) where
  fit : T (readb q) × ((length q.graph.nodes + length cut ≤ most_nodes) × (length q.graph.edges + length cut ≤ most_edges))
  fit =
      (says_and (says_T (readb q)) (says_and (says_le (length q.graph.nodes + length cut) most_nodes)
      (says_le (length q.graph.edges + length cut) most_edges))).so t

  abbrev report : Report
  report = record { answer = 0; place = 0; fences = length cut; weight = weight q.graph cut; length = length (fenced_file q cut) }

  demanded : Demand2 (bytes q) q report (fenced_file q cut) cut
  demanded = cut_demand (reads_of q fit.0) record { chosen = chosen; nodes = fit.1.0; edges = fit.1.1; told = refl; file = refl }

  roomy : Crowded q cut → ⊥
  roomy (inl z) = omega (arith, fit.1.0)
  roomy (inr z) = omega (arith, fit.1.1)

  runs_to : RunsTo (bytes q) (length cut) (weight q.graph cut) (fenced_file q cut)
  runs_to before l = run_accepted (bytes q) q cut (reads_of q fit.0) chosen before roomy l _ _ refl refl

-- a sample's claim over graphs is its claim over files
file_so : (s : Sample) → T (fileb s) → Claim s → FileClaim s
file_so (ran g rules orders held cut total) t (sound, all, chosen, e) =
    let q = request g rules orders in
    let d = demanded q cut chosen t in (
      all,
      subst (λ (w : ℕ). RunsTo (bytes q) (length cut) w (fenced_file q cut)) e (runs_to q cut chosen t),
      run_idle (fenced_file q cut) (with_graph q (written g cut)) d.again d.held,
    )
file_so (asked g rules orders number route) t (sound, shown) =
    let p = (says_and (says_T (readb (request g rules orders))) (says_lt number (length orders))).so t in
    λ before l. ask_accepted (bytes (request g rules orders)) (request g rules orders) number (reads_of (request g rules orders) p.0) before p.1 l route
    shown _ _ refl refl
file_so (off count rules orders g cut total) t way = λ before l.
    strip_accepted (fenced_file q cut) (with_graph q (written g cut)) count (reads_of (with_graph q (written g cut)) p.0) before total g way l _ _
    (λ i. record { answer = 0; place = 0; fences = p.1 i; weight = total; length = length (bytes q) }) refl
  where
    q : Request
    q = request g rules orders

    p : T (readb (request (written g cut) rules orders)) × (length cut ≡ length (written g cut).nodes - count)
    p = (says_and (says_T (readb (request (written g cut) rules orders))) (says_eq (length cut) (length (written g cut).nodes - count))).so t
file_so (tied g rules orders cut total) t so = so
file_so (no_route g a b) t so = so
file_so (long g rules orders size) t so = bytes-length (request g rules orders) ∙ so
file_so (twice g rules orders later cut next total) t (first, second, way) = (runs_to q cut first p.0, runs_to k next second p.1.0, off_twice)
  where
    q : Request
    q = request g rules orders

    k : Request
    k = request (written g cut) rules later

    last : Request
    last = request (written (written g cut) next) rules later

    p : T (fitsb q cut)
        × (T (fitsb k next) × (T (readb last) × (length cut + length next ≡ length (written (written g cut) next).nodes - length g.nodes)))
    p =
        (says_and (says_T (fitsb q cut)) (says_and (says_T (fitsb k next))
        (says_and (says_T (readb last)) (says_eq (length cut + length next) (length (written (written g cut) next).nodes - length g.nodes))))).so t

    off_twice : StripsTo (bytes last) (length g.nodes) (length cut + length next) total (bytes (request g rules later))
    off_twice before l = strip_accepted (bytes last) last (length g.nodes) (reads_of last p.1.1.0) before total g way l _ _
        (λ i. record { answer = 0; place = 0; fences = p.1.1.1 i; weight = total; length = length (bytes (request g rules later)) }) refl
file_so (not_off count rules orders g) t stuck =
    λ before. strip_stuck (bytes (request g rules orders)) (request g rules orders) count (reads_of (request g rules orders) t) before stuck

-- P1 to P12, and what the wrong programs get wrong
pub files_true : (s : Sample) → Memᴰ s (samples ++ more_samples) → FileClaim s
unfolding bytes flat_map reading_of end_check record_at in_row count_in listed checked no_fences
    bad_node bad_edge same_pair repeated bad_left bad_right bad_rule bad_order leads earliest_from any
files_true s m = file_so s ((says_every (λ x. says_T (fileb x)) (samples ++ more_samples)).so tt s m) (claimed (Memᴰ.append_cases samples m))
  where
    claimed : Memᴰ s samples ⊎ Memᴰ s more_samples → Claim s
    claimed (inl a) = samples_true s a
    claimed (inr b) = more_true s b

abbrev D : Request
D = request (d_of 3) d_rules d_orders

-- the first line that `fence-list` prints for D: 0 0 2 2 108
pub D-run : (before : List ℕ) → 108 ≤ length before
    → RunOutcome (bytes D) before (record { answer = 0; place = 0; fences = 2; weight = 2; length = 108 }) (over before (fenced_file D (1 ∷ 2 ∷ [])))
unfolding bytes flat_map
D-run = (files_true (ran (d_of 3) d_rules d_orders (or 0 1 ∷ []) (1 ∷ 2 ∷ []) 2) (Memᴰ.head refl)).1
