-- What the walk is lent comes back: the route, and where no way was found the sets that grow along it.
-- Assumes nothing.
use mathlib.Core.Bool.{Bool, false, true≢false}
use mathlib.Core.List.{List, ◌++◌}
use mathlib.Core.Path.{◌≡◌, refl, sym, ap, ◌∙◌}
use Prim.Native.Nat.{ℕ}
use Rattle.walk.specs.Search.{Decides, GivenBack}

pub back_none : {way : Bool} {s a : ℕ} {l : List ℕ} → GivenBack way s s a a l l
back_none = record { on_route = λ e. refl; marked = λ e. refl; route = refl; long = refl }

pub back_as : {way way' : Bool} {s s₁ a a₁ : ℕ} {l l₁ : List ℕ} → way ≡ way' → GivenBack way s s₁ a a₁ l l₁ → GivenBack way' s s₁ a a₁ l l₁
back_as e y = rw e at y

-- nothing is named
pub no_way : {C : ℕ → ℕ → ℕ → List ℕ → Type 0} {v s s₁ a a₁ : ℕ} {l l₁ : List ℕ}
    → ((x : List ℕ) → C s a v x → ⊥)
    → GivenBack false s s₁ a a₁ l l₁
    → Decides C v false s s₁ a a₁ l l₁
no_way none back = record { none = λ e. none; found = λ e. absurd (true≢false (sym e)); back = back }

-- ---- seen from before, where what was lent is the same

module _ {way : Bool} {s s₁ s₂ a a₁ a₂ : ℕ} {l l₁ l₂ : List ℕ} (same : GivenBack false s s₁ a a₁ l l₁) where
  pub back_then : GivenBack way s₁ s₂ a₁ a₂ l₁ l₂ → GivenBack way s s₂ a a₂ l l₂
  back_then then =
      let y = rw (same.on_route refl, same.marked refl) at then in
      record { on_route = y.on_route; marked = y.marked; route = y.route ∙ same.route; long = y.long ∙ same.long }

  pub seen_from : {C : ℕ → ℕ → ℕ → List ℕ → Type 0} {v : ℕ} → Decides C v way s₁ s₂ a₁ a₂ l₁ l₂ → Decides C v way s s₂ a a₂ l l₂
  seen_from then =
      let y = rw (same.on_route refl, same.marked refl) at then in
      record {
        none = y.none;
        found = λ e. let r = y.found e in (r.0, r.1, r.2 ∙ ap (λ (p : List ℕ). p ++ r.0) same.route, r.3);
        back = back_then then.back;
      }
