-- Answers 2 to 7 as they are computed: what is wrong with each record, which rules are missing, the checks in their order, and the whole reading.
-- Assumes nothing.
use Rattle.std.specs.Prelude.{Bool, not, ◌&&◌, ◌||◌, cond, false, List, [], ◌∷◌, ◌≡◌, ℕ, ◌+◌, ◌*◌, ◌<◌, ◌≤◌, leb, ltb, eqb, get_or}
use Rattle.request.specs.declared.Answer.{Answer}
use Rattle.request.specs.declared.Answer.TheVariants.{BadEdge, BadNode, BadOrder, BadRule, NoFenceRules, TooMany}
use Rattle.request.specs.declared.Check.{Check}
use Rattle.request.specs.declared.Check.TheVariants.{Many, Wrong, Fenceless}
use Rattle.request.specs.declared.Counts.{Counts}
use Rattle.request.specs.declared.kinds.Kind.{Kind}
use Rattle.request.specs.declared.kinds.Kind.TheVariants.{Any, Fence, Load, Store}
use Rattle.request.specs.declared.Mark.{Mark}
use Rattle.request.specs.declared.Mark.TheVariants.{Nd, Ed, Ru, Or}
use Rattle.request.specs.declared.Refusal.{Refusal}
use Rattle.std.specs.Prelude.{Result, Ok, Err, Option, None, Some}
use Rattle.request.specs.Answers.{refused}
use Rattle.graph.specs.Limits.{most_edges, most_nodes, most_orders, most_rules}
use Rattle.request.specs.Layout.{counted, earlier, layout_of, start_of, summed}
use Rattle.request.specs.Earliest.{earliest, any}

-- a number of two bytes, the low one first
abbrev pub two_at : List ℕ → ℕ → ℕ
two_at s at = get_or s at 0 + 256 * get_or s (at + 1) 0

-- the pair of numbers that a record begins with, as one number
pub record PairAt (s : List ℕ) (at r : ℕ) : Type 0 where
  pub pair : r ≡ two_at s (at + 2) + 65536 * two_at s (at + 4)
  pub low : two_at s (at + 2) < 65536

-- the pairs of numbers that two records begin with agree
unfoldable pub same_pair : List ℕ → ℕ → ℕ → Bool
same_pair s p q = eqb (two_at s (p + 2)) (two_at s (q + 2)) && eqb (two_at s (p + 4)) (two_at s (q + 4))

-- record i, of records of z bytes from `start` on, has the pair of an earlier one
unfoldable pub repeated : List ℕ → ℕ → ℕ → ℕ → Bool
repeated s start z i = any (λ j. same_pair s (start + j * z) (start + i * z)) i

-- the node at an offset: kind above 2, or a fence with an address
unfoldable pub bad_node : List ℕ → ℕ → Bool
bad_node s at = ltb 2 (get_or s (at + 2) 0) || (eqb (get_or s (at + 2) 0) 2 && not (eqb (get_or s (at + 3) 0) 0))

-- edge i, the edges beginning at `start`: an end that is none of the n nodes, weight 0, or the pair of an earlier edge
unfoldable pub bad_edge : List ℕ → ℕ → ℕ → ℕ → Bool
bad_edge s n start i =
    leb n (two_at s (start + i * 8 + 2)) || (leb n (two_at s (start + i * 8 + 4)) || (eqb (two_at s (start + i * 8 + 6)) 0 || repeated s start 8 i))

-- a left side: kind above 3; a store's or a load's variable isn't 1; another's isn't 0
unfoldable pub bad_left : ℕ → ℕ → Bool
bad_left kind variable = ltb 3 kind || ((ltb kind 2 && not (eqb variable 1)) || (leb 2 kind && not (eqb variable 0)))

-- a right side: likewise, but 2 is allowed where the left side has a variable
unfoldable pub bad_right : ℕ → ℕ → ℕ → Bool
bad_right left kind variable =
    ltb 3 kind || ((ltb kind 2 && (not (eqb variable 1) && (not (eqb variable 2) || leb 2 left))) || (leb 2 kind && not (eqb variable 0)))

-- the rule at an offset: one of its sides is bad
unfoldable pub bad_rule : List ℕ → ℕ → Bool
bad_rule s at = bad_left (get_or s (at + 2) 0) (get_or s (at + 3) 0) || bad_right (get_or s (at + 2) 0) (get_or s (at + 4) 0) (get_or s (at + 5) 0)

-- order i, the orders beginning at `start`: an end that is none of the n nodes, equal ends, or an earlier order again
unfoldable pub bad_order : List ℕ → ℕ → ℕ → ℕ → Bool
bad_order s n start i =
    leb n (two_at s (start + i * 6 + 2))
    || (leb n (two_at s (start + i * 6 + 4)) || (eqb (two_at s (start + i * 6 + 2)) (two_at s (start + i * 6 + 4)) || repeated s start 6 i))

-- how a file numbers the kinds
abbrev pub code : Kind → ℕ
code Store = 0
code Load = 1
code Fence = 2
code Any = 3

-- a byte is that kind's, or no kind's where there is none
abbrev pub KindOf : ℕ → Option Kind → Type 0
KindOf byte None = 3 < byte
KindOf byte (Some k) = byte ≡ code k

-- the rule at an offset leads from the one kind to the other
unfoldable pub leads : List ℕ → ℕ → ℕ → ℕ → Bool
leads s left right at = eqb (get_or s (at + 2) 0) left && eqb (get_or s (at + 4) 0) right

-- one of the n rules does, which begin at `start`
abbrev pub some_leads : List ℕ → ℕ → ℕ → ℕ → ℕ → Bool
some_leads s start n left right = any (λ i. leads s left right (start + i * 6)) n

-- wildcard to fence or fence to wildcard is missing
unfoldable pub no_fences : List ℕ → ℕ → ℕ → Bool
no_fences s start n = not (some_leads s start n 3 2) || not (some_leads s start n 2 3)

-- an answer where one of the n records of a kind, the first of them numbered `start`, is the first bad one; and else what follows
unfoldable pub listed : Answer → ℕ → ℕ → ℕ → Result Counts Refusal → Result Counts Refusal
listed answer start i n later = cond (ltb i n) (refused answer (start + i)) later

-- ---- the table of marks

-- the record number of the first of a mark
abbrev pub numbered : Counts → Mark → ℕ
numbered cs m = summed (counted cs) (earlier m)

-- how many there may be
abbrev pub most : Mark → ℕ
most Nd = most_nodes
most Ed = most_edges
most Ru = most_rules
most Or = most_orders

-- the answer where one is wrong
abbrev pub wrong_answer : Mark → Answer
wrong_answer Nd = BadNode
wrong_answer Ed = BadEdge
wrong_answer Ru = BadRule
wrong_answer Or = BadOrder

-- record i of a mark is wrong, its records beginning at `start`, with n nodes
abbrev pub bad_record : List ℕ → ℕ → Mark → ℕ → ℕ → Bool
bad_record s n Nd start i = bad_node s (start + i * 4)
bad_record s n Ed start i = bad_edge s n start i
bad_record s n Ru start i = bad_rule s (start + i * 6)
bad_record s n Or start i = bad_order s n start i

-- ---- the checks: each looks at some records, one after the other

-- the answer of a check
abbrev pub answer_to : Check → Answer
answer_to (Many m) = TooMany
answer_to (Wrong m) = wrong_answer m
answer_to Fenceless = NoFenceRules

-- the record number that it begins with
abbrev pub start_for : Counts → Check → ℕ
start_for cs (Many m) = numbered cs m
start_for cs (Wrong m) = numbered cs m
start_for cs Fenceless = 0

-- how many records it looks at; the fence rules are looked for once
abbrev pub count_for : Counts → Check → ℕ
count_for cs (Many m) = counted cs m
count_for cs (Wrong m) = counted cs m
count_for cs Fenceless = 1

-- it fails at the i-th of them
abbrev pub fails_at : List ℕ → Counts → Check → ℕ → Bool
fails_at s cs (Many m) i = leb (most m) i
fails_at s cs (Wrong m) i = bad_record s cs.nodes m (start_of cs m) i
fails_at s cs Fenceless i = no_fences s (start_of cs Ru) cs.rules

-- it fails at none of the first r of them, whatever the file has
abbrev pub SureTo : Counts → Check → ℕ → Type 0
SureTo cs c r = (r ≤ count_for cs c) × ((s : List ℕ) (k : ℕ) → k < r → fails_at s cs c k ≡ false)

-- the first of them where it fails, or none
abbrev pub FirstFailing : List ℕ → Counts → Check → Option ℕ → Type 0
FirstFailing s cs c None = earliest (fails_at s cs c) (count_for cs c) ≡ count_for cs c
FirstFailing s cs c (Some i) = (earliest (fails_at s cs c) (count_for cs c) ≡ i) × (i < count_for cs c)

-- the first check that fails gives the answer
unfoldable pub checked : List ℕ → Counts → List Check → Result Counts Refusal
checked s cs [] = Ok cs
checked s cs (c ∷ l) = listed (answer_to c) (start_for cs c) (earliest (fails_at s cs c) (count_for cs c)) (count_for cs c) (checked s cs l)

-- by rank, and within it by place
abbrev pub all_checks : List Check
all_checks = Many Nd ∷ Many Ed ∷ Many Ru ∷ Many Or ∷ Wrong Nd ∷ Wrong Ed ∷ Wrong Ru ∷ Wrong Or ∷ Fenceless ∷ []

-- a refusal stays; else what the counts say
abbrev pub on_whole : Result Counts Refusal → (Counts → Result Counts Refusal) → Result Counts Refusal
on_whole (Ok cs) f = f cs
on_whole (Err e) f = Err e

-- the whole reading: the lowest answer, and its earliest place
unfoldable pub reading_of : List ℕ → Result Counts Refusal
reading_of s = on_whole (layout_of s) (λ cs. checked s cs all_checks)
