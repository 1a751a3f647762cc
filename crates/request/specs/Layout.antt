-- How records lie in a file: the table of marks, where the records of each begin, and answer 1 as it is computed.
-- Assumes nothing.
use Rattle.std.specs.Prelude.{Bool, ◌&&◌, cond, List, [], ◌∷◌, ℕ, zero, suc, ◌+◌, ◌*◌, leb, eqb, length, get_or, drop}
use Rattle.request.specs.declared.Answer.TheVariants.{Unreadable}
use Rattle.request.specs.declared.Counts.{Counts}
use Rattle.request.specs.declared.Mark.{Mark}
use Rattle.request.specs.declared.Mark.TheVariants.{Nd, Ed, Ru, Or}
use Rattle.request.specs.declared.Refusal.{Refusal}
use Rattle.std.specs.Prelude.{Result, Ok}
use Rattle.request.specs.Answers.{refused}

-- ---- the table of marks

-- the two bytes of a mark
abbrev pub letters : Mark → ℕ × ℕ
letters Nd = (78, 68)
letters Ed = (69, 68)
letters Ru = (82, 85)
letters Or = (79, 82)

-- "Bytes in all"
abbrev pub width : Mark → ℕ
width Nd = 4
width Ed = 8
width Ru = 6
width Or = 6

-- how many records of a mark there are
abbrev pub counted : Counts → Mark → ℕ
counted cs Nd = cs.nodes
counted cs Ed = cs.edges
counted cs Ru = cs.rules
counted cs Or = cs.orders

-- "Records stand in the order ND, ED, RU, OR": the marks before one, the nearest first
abbrev pub earlier : Mark → List Mark
earlier Nd = []
earlier Ed = Nd ∷ []
earlier Ru = Ed ∷ Nd ∷ []
earlier Or = Ru ∷ Ed ∷ Nd ∷ []

-- all marks, likewise
abbrev pub all_marks : List Mark
all_marks = Or ∷ earlier Or

-- ---- where records begin and end

-- a number for each of these marks, added up
abbrev pub summed : (Mark → ℕ) → List Mark → ℕ
summed f [] = 0
summed f (m ∷ []) = f m
summed f (m ∷ (k ∷ ms)) = summed f (k ∷ ms) + f m

-- where the records of these marks end, so many of each
abbrev pub end_by : (Mark → ℕ) → List Mark → ℕ
end_by count ms = summed (λ m. count m * width m) ms

-- where the records of a mark begin
abbrev pub start_of : Counts → Mark → ℕ
start_of cs m = end_by (counted cs) (earlier m)

-- where all records end
abbrev pub end_of : Counts → ℕ
end_of cs = end_by (counted cs) all_marks

-- ---- answer 1

-- the mark a b stands in front
abbrev pub marked : ℕ → ℕ → List ℕ → Bool
marked a b t = eqb (get_or t 0 0) a && eqb (get_or t 1 0) b

-- a whole record of the mark a b, of z bytes, stands at the offset
unfoldable pub record_at : ℕ → ℕ → ℕ → List ℕ → ℕ → Bool
record_at a b z s at = leb (at + z) (length s) && marked a b (drop at s)

-- how many such records stand one after the other from the offset on, of the first f looked at
unfoldable pub in_row : ℕ → ℕ → ℕ → List ℕ → ℕ → ℕ → ℕ
in_row a b z s zero at = 0
in_row a b z s (suc f) at = cond (record_at a b z s at) (suc (in_row a b z s f (at + z))) 0

-- how many records of a mark
abbrev pub count_at : Mark → List ℕ → ℕ → ℕ
count_at m s at = in_row (letters m).0 (letters m).1 (width m) s (length s) at

-- and where they end
abbrev pub past_at : Mark → List ℕ → ℕ → ℕ
past_at m s at = at + count_at m s at * width m

-- where the records of these marks end that a file begins with
abbrev pub end_in : List ℕ → List Mark → ℕ
end_in s [] = 0
end_in s (m ∷ []) = count_at m s 0 * width m
end_in s (m ∷ (k ∷ ms)) = past_at m s (end_in s (k ∷ ms))

-- how many records of a mark there are among those that a file begins with
unfoldable pub count_in : List ℕ → Mark → ℕ
count_in s m = count_at m s (end_in s (earlier m))

-- the counts together
abbrev pub counts_in : List ℕ → Counts
counts_in s = record { nodes = count_in s Nd; edges = count_in s Ed; rules = count_in s Ru; orders = count_in s Or }

-- answer 1, where the records before the end are those counted
unfoldable pub end_check : List ℕ → Counts → Result Counts Refusal
end_check s cs =
    cond (record_at 69 78 2 s (end_of cs))
    (cond (eqb (end_of cs + 2) (length s)) (Ok cs) (refused Unreadable (end_of cs + 2)))
    (refused Unreadable (end_of cs))

-- answer 1, of a file
abbrev pub layout_of : List ℕ → Result Counts Refusal
layout_of s = end_check s (counts_in s)
