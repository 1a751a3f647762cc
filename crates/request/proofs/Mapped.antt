-- Lists mapped, by the numbers of their elements.
-- Assumes nothing.
use mathlib.Core.List.{List, Memᴰ, [], ◌∷◌, flat_map, map}
use mathlib.Core.Path.{◌≡◌, refl, subst⁻¹, sym, ◌∙◌}
use Prim.Native.Nat.{◌<◌, suc, zero, ℕ}
use native.Mathlib.Omega.{arith}
use lib.ListN.{get_or, length, length-map, get_or-map}
use Rattle.graph.proofs.Members.{at_mem, mem_at}

module _ {A B : Type 0} where
  pub mem_map : (f : A → B) (d : A) (l : List A) {x : B} → Memᴰ x (map f l) → (i : ℕ) × (i < length l) × (x ≡ f (get_or l i d))
  mem_map f d l m = let at = mem_at (f d) (map f l) m in (at.0, omega (arith, at.1, length-map l f), at.2 ∙ get_or-map f l at.0 d)

  pub map_mem : (f : A → B) (d : A) (l : List A) (i : ℕ) (x : B) → i < length l → x ≡ f (get_or l i d) → Memᴰ x (map f l)
  map_mem f d l i x h e =
      subst⁻¹ (λ (y : B). Memᴰ y (map f l)) (e ∙ sym (get_or-map f l i d)) (at_mem (f d) (map f l) i (omega (arith, length-map l f)))

  pub map_flat : (f : A → B) (e : A → List ℕ) (e' : B → List ℕ) → ((x : A) → e x ≡ e' (f x)) → (l : List A) → flat_map e l ≡ flat_map e' (map f l)
  unfolding flat_map
  map_flat f e e' h [] = refl
  map_flat f e e' h (x ∷ l) = rw (h x, map_flat f e e' h l) refl

  pub map_back : (f : A → B) (b : B → A) (d : A) (l : List A) → ((i : ℕ) → i < length l → b (f (get_or l i d)) ≡ get_or l i d) → map b (map f l) ≡ l
  map_back f b d [] h = refl
  map_back f b d (x ∷ l) h =
      let p : b (f x) ≡ x = h 0 (omega arith) in
      let q : map b (map f l) ≡ l = map_back f b d l (λ i k. h (suc i) (omega arith)) in
      cc

-- element i of a mapped list
pub mapped_at : {A B : Type 0} (f : A → B) (d : B) (l : List A) (i : ℕ) (e : A) → i < length l → get_or (map f l) i d ≡ f (get_or l i e)
mapped_at f d [] i e h = absurd (let z : ⊥ = omega arith in z)
mapped_at f d (x ∷ l) zero e h = refl
mapped_at f d (x ∷ l) (suc i) e h = mapped_at f d l i e (omega arith)
