-- Demands 2 and 3 hold.
-- Assumes nothing.
use mathlib.Core.List.Memᴰ
use mathlib.Core.List.{List, Memᴰ, [], ◌++◌}
use mathlib.Core.Logic.{◌⊎◌, inl, inr}
use mathlib.Core.Path.{◌∙◌, ◌≡◌, ap, ap₂, refl, subst, subst⁻¹, sym}
use Prim.Native.Nat.{◌+◌, ◌-◌, ◌*◌, ◌≤◌, ℕ}
use native.Mathlib.Omega.{arith}
use lib.ListN.{drop, length, take}
use lib.Seq.{take-append_seam}
use Rattle.outcome.specs.declared.Report.{Report}
use Rattle.graph.specs.declared.Order.{Order}
use Rattle.graph.specs.declared.Rule.{Rule}
use Rattle.request.specs.declared.Answer.{Answer}
use Rattle.request.specs.declared.Answer.TheVariants.{BadEdge, BadNode, BadOrder, BadRule, NoFenceRules, NoRoom, NoSuchOrder, NotLoose, ShortBuffer, TooMany, Unreadable}
use Rattle.fence.specs.Demands.{Accepted, Demand2, Demand3, Forgotten, Runs, StripsBack, none, run}
use Rattle.outcome.specs.Outcome.{RunOutcome, StripOutcome, accepted, fenced_file, no_room, over, refused, with_graph}
use Rattle.graph.specs.Cut.{ChosenCut, weight}
use Rattle.graph.specs.Graph.{Graph, Sound, no_order}
use Rattle.graph.specs.Held.{Held, Within}
use Rattle.graph.specs.Limits.{most_edges, most_nodes}
use Rattle.graph.specs.Strip.{AllName, Names, StripTo, Stripped}
use Rattle.graph.specs.Written.{FenceRules, written}
use Rattle.request.specs.Answers.{number}
use Rattle.request.specs.File.{Request, bytes, request}
use Rattle.request.specs.Proper.{Reads, Proper}
use Rattle.fence.proofs.Again.{proper_written, proper_stripped, written_edges}
use Rattle.outcome.proofs.Off.{strip_accepted}
use Rattle.outcome.proofs.Ran.{Crowded, run_accepted}
use Rattle.outcome.proofs.Reading.{reads_unique}
use Rattle.outcome.proofs.Unique.{run_unique, strip_unique}
use Rattle.graph.proofs.Members.{mem_at}
use Rattle.graph.proofs.Runs.{Rounds, ended, round, asked_kept, empty_chosen, rounds_nodes, rounds_stripped, written_nodes}
use Rattle.graph.proofs.Says.{says_le, stable}
use Rattle.graph.proofs.Strip.{stripped_fewer, stripped_unique, stripped_written}
use Rattle.graph.proofs.Unique.{best_unique}
use Rattle.graph.proofs.Written.{asked_held, held_separates, rising_within}
use Rattle.request.proofs.Answered.{bytes-length}

-- ---- what run and strip answer 0 to

not_zero : (a : Answer) → number a ≡ 0 → ⊥
not_zero Unreadable e = omega arith
not_zero TooMany e = omega arith
not_zero BadNode e = omega arith
not_zero BadEdge e = omega arith
not_zero BadRule e = omega arith
not_zero BadOrder e = omega arith
not_zero NoFenceRules e = omega arith
not_zero NoSuchOrder e = omega arith
not_zero NoRoom e = omega arith
not_zero NotLoose e = omega arith
not_zero ShortBuffer e = omega arith

-- what stands at the front of the buffer is what was written
fronted : (before : List ℕ) {after : List ℕ} {n : ℕ} (t : List ℕ) → n ≡ length t → after ≡ over before t → take n after ≡ t
fronted before t e f = ap₂ (λ (k : ℕ) (l : List ℕ). take k l) e f ∙ take-append_seam t (drop (length t) before)

-- an accepted run takes the chosen cut, has room for its fences, tells them and writes them
pub record Run (q : Request) (r : Report) (t c : List ℕ) : Type 0 where
  pub chosen : ChosenCut q.graph q.rules q.orders c
  pub nodes : length q.graph.nodes + length c ≤ most_nodes
  pub edges : length q.graph.edges + length c ≤ most_edges
  pub told : r ≡ record { answer = 0; place = 0; fences = length c; weight = weight q.graph c; length = length (fenced_file q c) }
  pub file : t ≡ fenced_file q c

pub accepted_run : {s t : List ℕ} {q : Request} {r : Report} → Accepted s q r t → (c : List ℕ) × Run q r t c
accepted_run {s} {t} {q} {r} x = go x.outcome
  where
    go : RunOutcome s x.before r x.after → (c : List ℕ) × Run q r t c
    go (refused a p b e f) = absurd (not_zero a (sym (ap (λ (z : Report). z.answer) e) ∙ x.answer))
    go (accepted k c reads chosen none_bad e f) = subst (λ (z : Request). (d : List ℕ) × Run z r t d) (reads_unique reads x.reads) (
      c,
      record {
        chosen = chosen;
        nodes = stable (says_le (length k.graph.nodes + length c) most_nodes) (λ n. none_bad NoRoom 0 (no_room k c reads chosen (inl (omega arith))));
        edges = stable (says_le (length k.graph.edges + length c) most_edges) (λ n. none_bad NoRoom 0 (no_room k c reads chosen (inr (omega arith))));
        told = e;
        file = x.wrote ∙ fronted x.before (fenced_file k c) (ap (λ (z : Report). z.length) e) f;
      },
    )

-- what strip writes is a file again, of the same rules and orders
pub strip_again : {s before after : List ℕ} {count : ℕ} {r : Report} → StripOutcome s count before r after → r.answer ≡ 0
    → (q : Request) × Reads (take r.length after) q
strip_again (refused a p b e f) z = absurd (not_zero a (sym (ap (λ (x : Report). x.answer) e) ∙ z))
strip_again {before = before} {count = count} (accepted q total h reads way none_bad e f) z = (
  with_graph q h,
  record {
    is_bytes = fronted before (bytes (with_graph q h)) (ap (λ (x : Report). x.length) e) f;
    proper = proper_stripped q count total h reads.proper way;
  },
)

-- ---- demand 2

names_of : (q : Request) → Proper q → AllName (length q.graph.nodes) q.orders
names_of q p o m =
    let at = mem_at no_order q.orders m in let e = p.orderly.ends at.0 at.1 in subst⁻¹ (Names (length q.graph.nodes)) at.2 (e.0, e.1)

strip_to : {g h : Graph} {t : ℕ} {orders : List Order} → AllName (length h.nodes) orders → Stripped g t h → StripTo (length h.nodes) orders g t h
strip_to names off = record { enough = stripped_fewer off; names = names; stripped = off; left = refl }

-- taking fences off a graph that is written in the file s
strips_back : {s : List ℕ} (k : Request) (h : Graph) (fences total : ℕ) → Reads s k → AllName (length h.nodes) k.orders
    → length k.graph.nodes ≡ length h.nodes + fences
    → Stripped k.graph total h → StripsBack s (length h.nodes) fences total (bytes (with_graph k h))
strips_back {s} k h fences total reads names more off before after r l y =
    let taken : length k.graph.nodes - length h.nodes ≡ fences = omega (arith, more) in
    strip_unique y (strip_accepted s k (length h.nodes) reads before total h (strip_to names off) l _ _
    (λ i. record { answer = 0; place = 0; fences = sym taken i; weight = total; length = length (bytes (with_graph k h)) }) refl)

module _ {s t : List ℕ} {q : Request} {r : Report} {c : List ℕ} (reads : Reads s q) (x : Run q r t c) where
  P : Proper q
  P = reads.proper

  w : Within (length q.graph.edges) c
  w = rising_within 0 (length q.graph.edges) c x.chosen.among.rising

  fences : r.fences ≡ length c
  fences = ap (λ (z : Report). z.fences) x.told

  weighs : r.weight ≡ weight q.graph c
  weighs = ap (λ (z : Report). z.weight) x.told

  nodes : length (written q.graph c).nodes ≡ length q.graph.nodes + r.fences
  nodes = omega (arith, written_nodes q.graph c w, fences)

  again : Reads t (with_graph q (written q.graph c))
  again = record { is_bytes = x.file; proper = proper_written q c P x.chosen.among.rising x.nodes x.edges }

  pub cut_demand : Demand2 s q r t c
  cut_demand = record {
    chosen = x.chosen;
    only = λ d k. best_unique k x.chosen;
    again = again;
    held =
        λ o m. let n = names_of q P o m in
        asked_held P.fences q.graph q.orders c x.chosen.among.rising x.chosen.among.separates o m n.0 n.1;
    lightest = λ d i h. let l = x.chosen.least d record { rising = i; separates = held_separates q.graph q.orders d i h } in omega (arith, l, weighs);
    off = subst⁻¹ (StripsBack t (length q.graph.nodes) r.fences r.weight) reads.is_bytes (
        strips_back (with_graph q (written q.graph c)) q.graph r.fences r.weight again (names_of q P) nodes
        (subst⁻¹ (λ (n : ℕ). Stripped (written q.graph c) n q.graph) weighs (stripped_written q.graph c P.sound w))
        );
  }

pub demand_2 : {s t : List ℕ} {q : Request} {r : Report} → Accepted s q r t → (c : List ℕ) × Demand2 s q r t c
demand_2 a = let x = accepted_run a in (x.0, cut_demand a.reads x.1)

pub fences_told : {s t : List ℕ} {q p : Request} {r : Report} → Accepted s q r t → Reads t p → length p.graph.nodes ≡ length q.graph.nodes + r.fences
fences_told a reads =
    let x = (accepted_run a).1 in
    ap (λ (k : Request). length k.graph.nodes) (reads_unique reads (again a.reads x)) ∙ nodes a.reads x

pub twelve_bytes : {s t : List ℕ} {q : Request} {r : Report} → Accepted s q r t → length t ≡ length s + 12 * r.fences
twelve_bytes {q = q} a =
    let c = (accepted_run a).0 in let x = (accepted_run a).1 in let read = a.reads in
    let after = bytes-length (with_graph q (written q.graph c)) in
    omega (arith, ap length x.file, ap length read.is_bytes, bytes-length q, after, nodes read x, fences read x, written_edges q.graph c (w read x))

-- ---- a run with nothing open

module _ (s : List ℕ) (q : Request) (reads : Reads s q) (held : (o : Order) → Memᴰ o q.orders → Held q.graph q.rules o) where
  -- it returns its file unchanged
  pub run_idle : (before : List ℕ) → length s ≤ length before
      → RunOutcome s before (record { answer = 0; place = 0; fences = 0; weight = 0; length = length s }) (over before s)
  run_idle before l = run_accepted s q [] reads (empty_chosen held) before uncrowded (omega (arith, ap length reads.is_bytes)) _ (over before s)
      (λ i. record { answer = 0; place = 0; fences = 0; weight = 0; length = length (reads.is_bytes i) })
      (ap (over before) reads.is_bytes)
    where
      uncrowded : Crowded q [] → ⊥
      uncrowded (inl z) = omega (arith, reads.proper.few_nodes)
      uncrowded (inr z) = omega (arith, reads.proper.few_edges)

-- ---- demand 3

module _ {n : ℕ} {rules : List Rule} where
  -- the runs over files are runs over graphs
  rounds : {g h : Graph} {asked : List Order} {f w : ℕ} → Runs n rules g asked f w h → Rounds n rules g asked f w h
  rounds none = ended
  rounds {h = h} (run {asked = asked} {fences = f} {weight = v} s t q p r x same names reads later) =
      let c = accepted_run x in
      let D = cut_demand x.reads c.1 in
      let e : p.graph ≡ written q.graph c.0 = ap (λ (k : Request). k.graph) (reads_unique reads D.again) in
      subst⁻¹ (λ (k : ℕ). Rounds n rules q.graph (q.orders ++ asked) (f + k) (v + r.weight) h) (fences x.reads c.1)
      (subst⁻¹ (λ (k : ℕ). Rounds n rules q.graph (q.orders ++ asked) (f + length c.0) (v + k) h) (weighs x.reads c.1)
      (round c.0 (subst (λ (l : List Rule). ChosenCut q.graph l q.orders c.0) same D.chosen) names
      (subst (λ (k : Graph). Rounds n rules k asked f v h) e (rounds later))))

  -- what the first file tells, or that there is none
  begun : {g h : Graph} {asked : List Order} {f w : ℕ} → Runs n rules g asked f w h → ((asked ≡ []) × (h ≡ g)) ⊎ (FenceRules rules × Sound g)
  begun none = inl (refl, refl)
  begun (run s t q p r x same names reads later) = inr (subst FenceRules same x.reads.proper.fences, x.reads.proper.sound)

module _ {rules : List Rule} {g h : Graph} {asked : List Order} {f w : ℕ} (runs : Runs (length g.nodes) rules g asked f w h) where
  held : (o : Order) → Memᴰ o asked → Held h rules o
  held o m = elim (begun runs) [
    | inl e ↦ absurd (Memᴰ.not-nil (subst (Memᴰ o) e.0 m))
    | inr k ↦ asked_kept k.0 (omega arith) (rounds runs) o m
  ]

  -- a file with the last graph, or the first of them, tells that the first graph is sound
  sound : (s : List ℕ) (q : Request) → Reads s q → q.graph ≡ h → Sound g
  sound s q reads e = elim (begun runs) [ inl k ↦ subst Sound (e ∙ k.1) reads.proper.sound | inr k ↦ k.1 ]

  off : (s : List ℕ) (q : Request) → Reads s q → q.graph ≡ h → AllName (length g.nodes) q.orders
      → StripsBack s (length g.nodes) f w (bytes (with_graph q g))
  off s q reads e names = strips_back q g f w reads names
      (ap (λ (k : Graph). length k.nodes) e ∙ rounds_nodes (rounds runs))
      (subst⁻¹ (λ (k : Graph). Stripped k w g) e (rounds_stripped (sound s q reads e) (rounds runs)))

  pub demand_3 : Demand3 rules g asked f w h
  demand_3 = record {
    held = held;
    again = λ s q reads e same before-asked before after r l y. run_unique y (run_idle s q reads
        (λ o m. subst⁻¹ (λ (x : List Rule). Held q.graph x o) same (subst⁻¹ (λ (k : Graph). Held k rules o) e (held o (before-asked o m)))) before l);
    off = off;
  }

  pub history : Forgotten rules g h
  history s q reads e same before after u y z fresh first lent a b r v x x' = run_unique (subst (λ (l : List ℕ). RunOutcome l lent r a) (go y) x) x'
    where
      go : StripOutcome s (length g.nodes) before u after → take u.length after ≡ fresh
      go (refused k p wrong told f) = absurd (not_zero k (sym (ap (λ (l : Report). l.answer) told) ∙ z))
      go (accepted k total left reads' way none_bad told f) =
          let same-file : k ≡ q = reads_unique reads' reads in
          let back : Stripped k.graph w g = subst⁻¹ (λ (l : Graph). Stripped l w g) (ap (λ (l : Request). l.graph) same-file ∙ e)
          (rounds_stripped (sound s q reads e) (rounds runs)) in
          let graph : left ≡ g = (stripped_unique way.stripped back way.left).0 in
          let request-is : with_graph k left ≡ request g rules q.orders = λ i. record
          { graph = graph i; rules = (ap (λ (l : Request). l.rules) same-file ∙ same) i; orders = (same-file i).orders } in
          fronted before (bytes (with_graph k left)) (ap (λ (l : Report). l.length) told) f ∙ ap bytes request-is ∙ sym first.is_bytes
