-- No second outcome: two results that both meet a contract on the same input are equal, buffers included.
-- Assumes nothing.
use mathlib.Core.List.{List}
use mathlib.Core.Path.{◌∙◌, ◌≡◌, ap₂, subst, sym}
use Prim.Native.Nat.{ℕ}
use Rattle.outcome.specs.declared.Report.{Report}
use Rattle.outcome.specs.declared.Shown.{Shown}
use Rattle.graph.specs.declared.Order.{Order}
use Rattle.graph.specs.declared.Rule.{Rule}
use Rattle.outcome.specs.Outcome.{AskOutcome, RunOutcome, StripOutcome, accepted, refusal, refused, unshown}
use Rattle.graph.specs.Ask.{Asked}
use Rattle.graph.specs.Cut.{ChosenCut}
use Rattle.graph.specs.Graph.{Graph, Sound, order}
use Rattle.graph.specs.Strip.{StripTo}
use Rattle.request.specs.File.{Request}
use Rattle.outcome.proofs.Reading.{reads_unique}
use Rattle.graph.proofs.Strip.{stripped_unique}
use Rattle.graph.proofs.Exists.{cut_exists}
use Rattle.graph.proofs.Unique.{asked_unique, best_unique, refused_unique}
use Rattle.request.proofs.Ranked.{rank_apart}

pub one_cut : (g : Graph) (rules : List Rule) → Sound g → (orders : List Order)
    → (c : List ℕ) × ChosenCut g rules orders c × ((d : List ℕ) → ChosenCut g rules orders d → d ≡ c)
one_cut g rules sound orders = let x = cut_exists g rules sound orders in (x.0, x.1, λ d k. best_unique k x.1)

pub run_unique : {s o : List ℕ} {r t : Report} {x y : List ℕ} → RunOutcome s o r x → RunOutcome s o t y → (r ≡ t) × (x ≡ y)
run_unique (refused a p b e f) (refused c q d g h) = let u = refused_unique rank_apart b d in (e ∙ ap₂ refusal u.0 u.1 ∙ sym g, f ∙ sym h)
run_unique (refused a p b e f) (accepted q c z w n g h) = absurd (n a p b.bad)
run_unique (accepted q c z w n g h) (refused a p b e f) = absurd (n a p b.bad)
run_unique {o = o} (accepted q c z w n e f) (accepted k d z' w' n' g h) =
    let u : k ≡ q = reads_unique z' z in
    let v : d ≡ c = best_unique (subst (λ (r : Request). ChosenCut r.graph r.rules r.orders d) u w') w in
    (e ∙ sym (rw (u, v) at g), f ∙ sym (rw (u, v) at h))

pub ask_unique : {s : List ℕ} {k : ℕ} {o : List ℕ} {r t : Shown} {x y : List ℕ} → AskOutcome s k o r x → AskOutcome s k o t y → (r ≡ t) × (x ≡ y)
ask_unique (refused a p b e f) (refused c q d g h) =
    let u = refused_unique rank_apart b d in
    (e ∙ ap₂ unshown u.0 u.1 ∙ sym g, f ∙ sym h)
ask_unique (refused a p b e f) (accepted q c z w n g h) = absurd (n a p b.bad)
ask_unique (accepted q c z w n g h) (refused a p b e f) = absurd (n a p b.bad)
ask_unique {k = i} {o = o} (accepted q c z w n e f) (accepted k d z' w' n' g h) =
    let u : k ≡ q = reads_unique z' z in
    let v : d ≡ c = asked_unique (subst (λ (r : Request). Asked r.graph r.rules (order r.orders i) d) u w') w in
    (e ∙ sym (rw v at g), f ∙ sym (rw v at h))

pub strip_unique : {s : List ℕ} {c : ℕ} {o : List ℕ} {r t : Report} {x y : List ℕ} → StripOutcome s c o r x → StripOutcome s c o t y → (r ≡ t) × (x ≡ y)
strip_unique (refused a p b e f) (refused c q d g h) = let u = refused_unique rank_apart b d in (e ∙ ap₂ refusal u.0 u.1 ∙ sym g, f ∙ sym h)
strip_unique (refused a p b e f) (accepted q t j z w n g h) = absurd (n a p b.bad)
strip_unique (accepted q t j z w n g h) (refused a p b e f) = absurd (n a p b.bad)
strip_unique {c = c} {o = o} (accepted q t j z w n e f) (accepted k t' j' z' w' n' g h) =
    let u : k ≡ q = reads_unique z' z in
    let x : StripTo c q.orders q.graph t' j' = subst (λ (r : Request). StripTo c r.orders r.graph t' j') u w' in
    let v = stripped_unique x.stripped w.stripped (x.left ∙ sym w.left) in
    (e ∙ sym (rw (u, v.0, v.1) at g), f ∙ sym (rw (u, v.0) at h))
