-- The edges by which a pair was come to, from the last back.
-- Assumes nothing.
use mathlib.Core.List.{List, [], ◌∷◌, ◌++◌, append_assoc}
use mathlib.Core.Path.{◌≡◌, refl, sym, ap, ◌∙◌, subst}
use Prim.Native.Nat.{ℕ, ◌+◌, ◌<◌, ◌≤◌}
use native.Mathlib.Omega.{arith}
use lib.ListN.{length, get_or, length-append}
use Rattle.std.specs.Prelude.{reverse, Some, None}
use Rattle.std.proofs.lemmas.List.{reverse-append, length-reverse}
use Rattle.unordered.specs.Pairs.{Trail, start, on, bys}
use Rattle.unordered.specs.declared.pairs.By.{By}
use Rattle.unordered.specs.declared.pairs.Pair.{Pair}

trail_none : {pairs : List Pair} {j : ℕ} {es : List ℕ} → ((by : By) → get_or (bys pairs) j None ≡ Some by → ⊥) → Trail pairs j es → es ≡ []
trail_none none (start q) = refl
trail_none none (on {by = by} q d t) = absurd (none by q)

-- what comes after pair j of the edges es and the last stands in `out`, from the last on
pub record WayBack (pairs : List Pair) (last : ℕ) (es out : List ℕ) (j : ℕ) : Type 0 where
  pub before : List ℕ
  pub trail : Trail pairs j before
  pub whole : es ++ last ∷ [] ≡ before ++ reverse out

module _ {pairs : List Pair} {last : ℕ} {es : List ℕ} where
  pub back_start : {j : ℕ} → Trail pairs j es → WayBack pairs last es (last ∷ []) j
  back_start t = record { before = es; trail = t; whole = refl }

  -- the pair before, and the edge that came from it
  pub back_on : {out : List ℕ} {j : ℕ} {by : By} → WayBack pairs last es out j → get_or (bys pairs) j None ≡ Some by
      → (by.parent < j) × WayBack pairs last es (out ++ by.via ∷ []) by.parent
  back_on {out} {by = by} w h = step w.trail h w.whole
    where
      step : {j : ℕ} {before : List ℕ} → Trail pairs j before → get_or (bys pairs) j None ≡ Some by → es ++ last ∷ [] ≡ before ++ reverse out
          → (by.parent < j) × WayBack pairs last es (out ++ by.via ∷ []) by.parent
      step (start p) h q = absurd (cc)
      step {j} (on {es = s} {by = b} p d t) h q =
          let same : b ≡ by = cc in
          subst (λ (x : By). (x.parent < j) × WayBack pairs last es (out ++ x.via ∷ []) x.parent) same (
            d,
            record {
              before = s;
              trail = t;
              whole = q ∙ append_assoc s (b.via ∷ []) (reverse out) ∙ ap (λ (l : List ℕ). s ++ l) (sym (reverse-append out (b.via ∷ [])));
            },
          )

  -- there is room for one edge more
  pub back_room : {out : List ℕ} {j n : ℕ} {by : By} → WayBack pairs last es out j → get_or (bys pairs) j None ≡ Some by → length es + 1 ≤ n → length out < n
  back_room {out} {n = n} {by = by} w h m = room w.trail h w.whole
    where
      room : {j : ℕ} {before : List ℕ} → Trail pairs j before → get_or (bys pairs) j None ≡ Some by → es ++ last ∷ [] ≡ before ++ reverse out → length out < n
      room (start p) h q = absurd (cc)
      room (on {es = s} {by = b} p d t) h q =
          let a = ap (λ (l : List ℕ). length l) q in
          omega (arith, m, a, length-append es (last ∷ []), length-append (s ++ b.via ∷ []) (reverse out), length-append s (b.via ∷ []), length-reverse out)

  -- at the first pair, turned round in place
  pub back_end : {out turned : List ℕ} {j : ℕ} → WayBack pairs last es out j → ((by : By) → get_or (bys pairs) j None ≡ Some by → ⊥) → turned ≡ reverse out
      → turned ≡ es ++ last ∷ []
  back_end {out} w z e = e ∙ sym (w.whole ∙ ap (λ (l : List ℕ). l ++ reverse out) (trail_none z w.trail))
