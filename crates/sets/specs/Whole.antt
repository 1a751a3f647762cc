-- A set of several words is one long word: its flags are those of the words, one after the other, lowest word first.
-- Assumes nothing.
use Rattle.std.specs.Prelude.{true, false, Option, Some, None, List, [], ◌∷◌, map, ◌≡◌, ℕ, zero, suc, ◌+◌, ◌*◌, ◌^◌, ◌<◌, ◌≤◌, get_or}
use Rattle.std.specs.Int.Count.{ones}
use Rattle.flags.specs.Flag.{flag}

-- how many words a set has
abbrev pub words : ℕ
words = 8

-- each word has 64 flags
abbrev pub Small : List ℕ → Type 0
Small ws = (i : ℕ) → get_or ws i 0 < 2 ^ 64

-- the words as one number
unfoldable pub whole : List ℕ → ℕ
whole [] = 0
whole (w ∷ ws) = whole ws * 2 ^ 64 + w

-- how many flags are set in the first n words: the sum over them
abbrev pub counted : List ℕ → ℕ → ℕ
counted ws zero = 0
counted ws (suc n) = counted ws n + ones (get_or ws n 0)

-- a table of sets, each as one number
abbrev pub rows : List (List ℕ) → List ℕ
rows t = map whole t

-- how many numbers a set can have
abbrev pub most : ℕ
most = words * 64

-- each number of a is in b
abbrev pub Inside : ℕ → ℕ → Type 0
Inside a b = (k : ℕ) → flag a k ≡ true → flag b k ≡ true

-- k is in a and not in b, and no lower number is
pub record Lowest (a b k : ℕ) : Type 0 where
  pub node : k < most
  pub among : flag a k ≡ true
  pub new : flag b k ≡ false
  pub first : (j : ℕ) → j < k → flag a j ≡ true → flag b j ≡ true

-- the lowest number that is in a and not in b; none where all of a is in b
abbrev pub LowestOf : ℕ → ℕ → Option ℕ → Type 0
LowestOf a b (Some k) = Lowest a b k
LowestOf a b None = Inside a b

-- the lowest number from `from` on that is in a and not in b; none where there is none
abbrev pub Ahead : ℕ → ℕ → ℕ → Option ℕ → Type 0
Ahead a b from (Some k) = (from ≤ k) × (k < most) × (flag a k ≡ true) × (flag b k ≡ false) × ((j : ℕ) → from ≤ j → j < k → flag a j ≡ true → flag b j ≡ true)
Ahead a b from None = (j : ℕ) → from ≤ j → flag a j ≡ true → flag b j ≡ true
