-- What is read of the pairs, also once a pair is added.
-- Assumes nothing.
use mathlib.Core.List.{List, [], ◌∷◌, ◌++◌, map, map-append}
use mathlib.Core.Path.{◌≡◌, sym, ap, ◌∙◌}
use Prim.Native.Nat.{ℕ, ◌+◌, ◌<◌}
use native.Mathlib.Omega.{arith}
use lib.ListN.{length, get_or, length-append, length-map, get_or-append}
use lib.Seq.{get_or-append_seam}
use Rattle.std.proofs.lemmas.List.{get_or-map}
use Rattle.std.specs.Prelude.{Option, None}
use Rattle.unordered.specs.Pairs.{nodes, bys, priors, no_pair}
use Rattle.unordered.specs.declared.pairs.By.{By}
use Rattle.unordered.specs.declared.pairs.Pair.{Pair}

module _ {B : Type 0} (f : Pair → B) (d : B) (ps : List Pair) (p : Pair) where
  -- the first are as before
  pub pushed_same : (j : ℕ) → j < length ps → get_or (map f (ps ++ p ∷ [])) j d ≡ get_or (map f ps) j d
  pushed_same j h = ap (λ (l : List B). get_or l j d) (map-append f ps (p ∷ [])) ∙ get_or-append (map f ps) (f p ∷ []) d j (omega (arith, length-map ps f, h))

  -- and then comes the new one
  pub pushed_here : get_or (map f (ps ++ p ∷ [])) (length ps) d ≡ f p
  pushed_here =
      ap (λ (l : List B). get_or l (length ps) d) (map-append f ps (p ∷ []))
      ∙ ap (λ (n : ℕ). get_or (map f ps ++ f p ∷ []) n d) (sym (length-map ps f)) ∙ get_or-append_seam (map f ps) (f p) [] d

pub pushed_long : (ps : List Pair) (p : Pair) → length (ps ++ p ∷ []) ≡ length ps + 1
pushed_long ps p = length-append ps (p ∷ [])

-- ---- a pair as it is read

module _ {ps list : List Pair} {j : ℕ} (is : list ≡ ps) (h : j < length ps) where
  read : {B : Type 0} (f : Pair → B) (d : B) → f (get_or list j no_pair) ≡ get_or (map f ps) j d
  read f d = rw is (sym (get_or-map f ps j no_pair d h))

  pub node_at : {u : ℕ} → u ≡ (get_or list j no_pair).node → u ≡ get_or (nodes ps) j 0
  node_at e = e ∙ read (λ (q : Pair). q.node) 0

  pub prior_at : (get_or list j no_pair).prior ≡ get_or (priors ps) j None
  prior_at = read (λ (q : Pair). q.prior) None

  pub by_at : {by : Option By} → (get_or list j no_pair).by ≡ by → get_or (bys ps) j None ≡ by
  by_at e = sym (read (λ (q : Pair). q.by) None) ∙ e
