-- What is left of a route at a node. `visited` has the nodes on the route so far; `after` has those that are ordered after the first if they come next.
-- Assumes nothing.
use Rattle.std.specs.Prelude.{true, false, cond, List, [], ◌∷◌, ◌≡◌, ℕ, get_or}
use Rattle.flags.specs.Flag.{flag, put, either}
use Rattle.words.specs.Words.{listed}

-- `after`, once the route has gone on to v
abbrev pub mark : List ℕ → ℕ → ℕ → ℕ
mark fits after v = cond (flag after v) (either after (get_or fits v 0)) after

module _ (succ fits : List ℕ) (goal : ℕ) where
  -- l, which starts with v, ends a route that does not order its ends
  pub data Rest : ℕ → ℕ → ℕ → List ℕ → Type 0 where
    ends : {visited after v : ℕ} → flag visited v ≡ false → v ≡ goal → flag after v ≡ false → Rest visited after v (v ∷ [])
    goes : {visited after v k : ℕ} {l : List ℕ}
        → flag visited v ≡ false
        → (v ≡ goal → ⊥)
        → listed succ v k ≡ true
        → Rest (put visited v) (mark fits after v) k l
        → Rest visited after v (v ∷ l)

  -- the same of l that goes on from v
  abbrev pub GoesOn : ℕ → ℕ → ℕ → List ℕ → Type 0
  GoesOn visited after v l = (k : ℕ) × (listed succ v k ≡ true) × Rest visited after k l
