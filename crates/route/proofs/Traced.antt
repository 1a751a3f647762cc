-- The route that is found, edge by edge from its first node; or none.
-- Assumes nothing.
use mathlib.Core.List.{List, [], ◌∷◌, ◌++◌}
use mathlib.Core.Logic.{◌⊎◌, inl, inr, ⊎_elim, ◌≢◌}
use mathlib.Core.Path.{◌≡◌, refl, sym, ◌∙◌, subst⁻¹}
use Prim.Native.Nat.{ℕ, ◌+◌, ◌<◌, ◌≤◌}
use native.Mathlib.Omega.{arith}
use lib.ListN.{length, get_or, length-append, get_or-append}
use lib.Seq.{get_or_at}
use Rattle.graph.proofs.Splits.{lt_or_ge}
use Rattle.graph.specs.Limits.{most_nodes}
use Rattle.route.specs.declared.Onward.{Onward}
use Rattle.route.specs.declared.Onward.TheVariants.{Unreached, Here, By}
use Rattle.route.specs.Spread.{miss, onward, Reached, Homeward}
use Rattle.route.specs.Way.{Way, Remains, Found}
use Rattle.route.proofs.Spreads.{on_same, missed}

-- the edges of `out` lead from a to `at`: if a is reached, `at` stands in the queue, ahead of as many nodes as there are edges
pub record Tracing (from to left : List ℕ) (goal a : ℕ) (on : List Onward) (at : ℕ) (out : List ℕ) : Type 0 where
  pub queue : List ℕ
  pub few : length queue ≤ most_nodes
  pub led : Homeward from to left goal on queue
  pub far : miss (onward on a) ≡ 1 → (es : List ℕ) → Way from to (Remains left) a es goal → ⊥
  pub start : length out ≡ 0 → at ≡ a
  pub some : 0 < length out → Reached on a
  pub place : Reached on a → (k : ℕ) × (k + length out < length queue) × (get_or queue k 0 ≡ at)
  pub edge : (k : ℕ) → k < length out → (get_or out k 0 < length from) × Remains left (get_or out k 0)

-- whether a node is reached
miss_cases : (x : Onward) → (miss x ≡ 0) ⊎ (miss x ≡ 1)
miss_cases Unreached = inr refl
miss_cases Here = inl refl
miss_cases (By _) = inl refl

some_or_none : (n : ℕ) → (0 < n) ⊎ (n ≡ 0)
some_or_none n = ⊎_elim (λ h. inl h) (λ h. inr (omega (arith, h))) (lt_or_ge 0 n)

module _ {from to left : List ℕ} {goal a : ℕ} {on : List Onward} where
  pub trace_start : (queue : List ℕ) → length queue ≤ most_nodes → Homeward from to left goal on queue
      → (miss (onward on a) ≡ 1 → (es : List ℕ) → Way from to (Remains left) a es goal → ⊥) → Tracing from to left goal a on a []
  trace_start queue few led far = record {
    queue = queue;
    few = few;
    led = led;
    far = far;
    start = λ z. refl;
    some = λ h. absurd (omega (arith, h));
    place = λ r. let q = led.queued a r in (q.0, omega (arith, q.1), q.2);
    edge = λ k h. absurd (omega (arith, h));
  }

  module _ {at : ℕ} {out : List ℕ} (y : Tracing from to left goal a on at out) where
    module _ {e : ℕ} (by : onward on at ≡ By e) where
      from_reached : Reached on a
      from_reached = ⊎_elim (λ h. y.some h) (λ z. missed (on_same on (sym (y.start z))) ∙ missed by) (some_or_none (length out))

      step : (e < length from) × Remains left e × ((j : ℕ) × (j + (length out + 1) < length y.queue) × (get_or y.queue j 0 ≡ get_or to e 0))
      step =
          let p = y.place from_reached in
          let b = y.led.back p.0 e (omega (arith, p.1)) (on_same on p.2 ∙ by) in
          (b.0, b.1, (b.2.0, omega (arith, b.2.1, p.1), b.2.2))

      pub trace_edge : (e < length from) × (length out < most_nodes)
      trace_edge = (step.0, omega (arith, (y.place from_reached).1, y.few))

      pub trace_more : {at' : ℕ} → at' ≡ get_or to e 0 → Tracing from to left goal a on at' (out ++ e ∷ [])
      trace_more {at'} q = record {
        queue = y.queue;
        few = y.few;
        led = y.led;
        far = y.far;
        start = λ z. absurd (omega (arith, z, more));
        some = λ h. from_reached;
        place = λ r. let s = step.2 in (s.0, omega (arith, s.1, more), s.2 ∙ sym q);
        edge = λ k h. ⊎_elim (λ l. subst⁻¹ Open (get_or-append out (e ∷ []) 0 k l) (y.edge k l))
            (λ l. subst⁻¹ Open (get_or_at out e [] 0 k (omega (arith, l, h, more))) (step.0, step.1)) (lt_or_ge k (length out));
      }
        where
          Open : ℕ → Type 0
          Open x = (x < length from) × Remains left x

          more : length (out ++ e ∷ []) ≡ length out + 1
          more = length-append out (e ∷ [])

    pub trace_end : a ≢ goal → ((e : ℕ) → onward on at ≡ By e → ⊥) → Found from to left a goal out
    trace_end apart last = record {
      short = ⊎_elim (λ r. omega (arith, (y.place r).1, y.few)) (λ m. ⊎_elim (λ h. omega (arith, y.some h, m)) (λ z. omega (arith, z)) (some_or_none (length out)))
          (miss_cases (onward on a));
      none = λ z. none z (onward on a) refl;
      edge = y.edge;
    }
      where
        none : length out ≡ 0 → (x : Onward) → onward on a ≡ x → (es : List ℕ) → Way from to (Remains left) a es goal → ⊥
        none z Unreached q = y.far (missed q)
        none z Here q = absurd (apart (y.led.home a q))
        none z (By e) q = absurd (last e (on_same on (y.start z) ∙ q))

-- no edge: there is no way
pub none_found : {from to left : List ℕ} {a goal : ℕ} → ((es : List ℕ) → Way from to (Remains left) a es goal → ⊥) → Found from to left a goal []
none_found f = record { short = omega arith; none = λ z. f; edge = λ k l. absurd (omega (arith, l)) }
