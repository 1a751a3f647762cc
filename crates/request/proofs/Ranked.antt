-- No two answers have one rank.
-- Assumes nothing.
use mathlib.Core.Bool.{cond}
use mathlib.Core.List.{List, [], ◌∷◌}
use mathlib.Core.Path.{◌≡◌, refl, sym, ap, ◌∙◌}
use Prim.Native.Nat.{ℕ}
use lib.Dec.{eqb}
use Rattle.request.specs.declared.Answer.{Answer}
use Rattle.request.specs.declared.Answer.TheVariants.{Unreadable, TooMany, BadNode, BadEdge, BadRule, BadOrder, NoFenceRules, NoSuchOrder, NoRoom, NotLoose, ShortBuffer}
use Rattle.request.specs.Answers.{rank}

abbrev answers : List Answer
answers = Unreadable ∷ TooMany ∷ BadNode ∷ BadEdge ∷ BadRule ∷ BadOrder ∷ NoFenceRules ∷ NoSuchOrder ∷ NoRoom ∷ NotLoose ∷ ShortBuffer ∷ []

-- the first of these with the rank
abbrev ranked : List Answer → ℕ → Answer
ranked [] n = Unreadable
ranked (a ∷ l) n = cond (eqb (rank a) n) a (ranked l n)

unrank_rank : (a : Answer) → ranked answers (rank a) ≡ a
unrank_rank Unreadable = refl
unrank_rank TooMany = refl
unrank_rank BadNode = refl
unrank_rank BadEdge = refl
unrank_rank BadRule = refl
unrank_rank BadOrder = refl
unrank_rank NoFenceRules = refl
unrank_rank NoSuchOrder = refl
unrank_rank NoRoom = refl
unrank_rank NotLoose = refl
unrank_rank ShortBuffer = refl

pub rank_apart : (a b : Answer) → rank a ≡ rank b → a ≡ b
rank_apart a b e = sym (unrank_rank a) ∙ ap (ranked answers) e ∙ unrank_rank b
