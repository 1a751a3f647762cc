-- Tables of sets: what is read and written in one.
-- Assumes nothing.
use mathlib.Core.List.{List, [], ◌∷◌}
use mathlib.Core.Path.{◌≡◌, refl, sym, ap, ◌∙◌}
use Prim.Native.Nat.{ℕ, zero, suc, ◌+◌, ◌*◌, ◌^◌}
use lib.ListN.{length, get_or, set, replicate, length-map, get_or-map}
use Rattle.flags.specs.Flag.{put}
use Rattle.sets.specs.Whole.{words, whole, rows}

pub row_at : (t : List (List ℕ)) (p : ℕ) → get_or (rows t) p 0 ≡ whole (get_or t p [])
unfolding whole
row_at t p = get_or-map whole t p []

pub rows-set : (t : List (List ℕ)) (p : ℕ) (s : List ℕ) → rows (set t p s) ≡ set (rows t) p (whole s)
rows-set [] p s = refl
rows-set (x ∷ t) zero s = refl
rows-set (x ∷ t) (suc p) s = ap (λ (l : List ℕ). whole x ∷ l) (rows-set t p s)

-- one number more in a row
pub rows-put : (t : List (List ℕ)) (p k : ℕ) (s : List ℕ) → whole s ≡ put (whole (get_or t p [])) k
    → rows (set t p s) ≡ set (rows t) p (put (get_or (rows t) p 0) k)
rows-put t p k s e = rows-set t p s ∙ ap (set (rows t) p) (e ∙ ap (λ (w : ℕ). put w k) (sym (row_at t p)))

pub rows-length : (t : List (List ℕ)) → length (rows t) ≡ length t
rows-length t = length-map t whole

pub rows_same : (n : ℕ) (s : List ℕ) → rows (replicate n s) ≡ replicate n (whole s)
rows_same zero s = refl
rows_same (suc n) s = ap (λ (l : List ℕ). whole s ∷ l) (rows_same n s)

pub none_whole : (n : ℕ) → whole (replicate n 0) ≡ 0
unfolding whole
none_whole zero = refl
none_whole (suc n) = ap (λ (w : ℕ). w * 2 ^ 64 + 0) (none_whole n)

pub rows_none : (n : ℕ) → rows (replicate n (replicate words 0)) ≡ replicate n 0
rows_none n = rows_same n (replicate words 0) ∙ ap (replicate n) (none_whole words)
