-- A table filled edge by edge with what the edges lead to of which something is left.
-- Assumes nothing.
use mathlib.Core.List.{List}
use mathlib.Core.Path.{◌≡◌, refl, sym, subst, ◌∙◌}
use Prim.Native.Nat.{ℕ, zero, suc, ◌+◌, ◌<◌, ◌≤◌}
use native.Mathlib.Decide.{ℕ_discrete}
use native.Mathlib.Omega.{arith}
use lib.ListN.{length, get_or, set, replicate, length-set}
use Rattle.flags.specs.Flag.{put}
use Rattle.graph.specs.Limits.{most_nodes}
use Rattle.words.proofs.Fill.{LedBy, led_none, led_skip, led_put}
use Rattle.route.specs.Way.{Net, Remains}
use Rattle.walked.specs.Steps.{Leading}
use Rattle.walked.specs.Unordered.{Goes}

module _ (from to left : List ℕ) where
  abbrev pub Fills : ℕ → List ℕ → Type 0
  Fills = LedBy (Goes from to (Remains left))

  pub fills_none : Fills 0 (replicate most_nodes 0)
  fills_none = led_none (Goes from to (Remains left))

  pub fills_skip : (i : ℕ) (ws : List ℕ) → Fills i ws → get_or left i 0 ≡ 0 → Fills (i + 1) ws
  fills_skip i ws s z = led_skip (Goes from to (Remains left)) i ws s (λ p q g. omega (arith, g.1, z))

  pub fills_put : (i : ℕ) (ws : List ℕ) (f t : ℕ) → Fills i ws → i < length from → Remains left i → f ≡ get_or from i 0 → t ≡ get_or to i 0 → f < length ws
      → Fills (i + 1) (set ws f (put (get_or ws f 0) t))
  fills_put i ws f t s l o ef et h =
      led_put (Goes from to (Remains left)) i ws f t s h (l, o, sym ef, sym et) (λ p q g. (sym g.2 ∙ sym ef, sym g.3 ∙ sym et))

  pub fills_all : (i : ℕ) (ws : List ℕ) → Fills i ws → i ≡ length from → Leading from to left ws
  fills_all i ws s e p q = (λ x. let d = (s p q).0 x in (d.0, d.2), λ g. (s p q).1 (g.0, omega (arith, e, g.1.0), g.1))

  -- there is such a table
  abbrev Fillable : ℕ → Type 0
  Fillable i = (ws : List ℕ) × (length ws ≡ most_nodes) × Fills i ws

  fillable_on : Net from to → (i : ℕ) → i < length from → Fillable i → Fillable (i + 1)
  fillable_on net i h (ws, long, old) = go (ℕ_discrete (get_or left i 0) 0)
    where
      f : ℕ
      f = get_or from i 0

      word : ℕ
      word = put (get_or ws f 0) (get_or to i 0)

      go : Dec (get_or left i 0 ≡ 0) → Fillable (i + 1)
      go (yes z) = (ws, long, fills_skip i ws old z)
      go (no z) =
          let more = fills_put i ws f (get_or to i 0) old h (omega (arith, z)) refl refl (omega (arith, long, net.tail i h)) in
          (set ws f word, length-set ws f word ∙ long, more)

  fillable : Net from to → (i : ℕ) → i ≤ length from → Fillable i
  fillable net zero h = (replicate most_nodes 0, refl, fills_none)
  fillable net (suc i) h = let e : i + 1 ≡ suc i = omega arith in subst Fillable e (fillable_on net i (omega (arith, h)) (fillable net i (omega (arith, h))))

  pub fills_exist : Net from to → (succ : List ℕ) × Leading from to left succ
  fills_exist net = let f = fillable net (length from) (omega arith) in (f.0, fills_all (length from) f.0 f.2 refl)
