-- Document 01's files that are refused: what each is read as.
-- Assumes nothing.
use mathlib.Core.List.{List, [], ◌++◌, ◌∷◌, flat_map}
use mathlib.Core.Path.{refl}
use Prim.Native.Nat.{ℕ}
use lib.ListN.{drop, replicate, take}
use Rattle.graph.specs.declared.Label.TheVariants.{Fence}
use Rattle.request.specs.declared.Answer.TheVariants.{BadOrder, NoFenceRules, TooMany, Unreadable}
use Rattle.request.specs.Answers.{refused}
use Rattle.graph.specs.Samples.{d_of, d_orders, d_rules, fence_rules, or}
use Rattle.request.specs.File.{Request, bytes, request}
use Rattle.request.specs.Layout.{count_in, end_check, in_row, record_at}
use Rattle.request.specs.Outcome.{Answered}
use Rattle.request.specs.Earliest.{any, earliest_from}
use Rattle.request.specs.Tables.{bad_edge, bad_left, bad_node, bad_order, bad_right, bad_rule, checked, leads, listed, no_fences, reading_of, repeated, same_pair}
use Rattle.request.proofs.Computed.{read_as}

abbrev D : Request
D = request (d_of 3) d_rules d_orders

abbrev again : List ℕ
again = bytes (request (d_of 3) d_rules (d_orders ++ (or 0 1 ∷ [])))

abbrev equal : List ℕ
equal = bytes (request (d_of 3) d_rules (d_orders ++ (or 1 1 ∷ [])))

abbrev one_way : List ℕ
one_way = bytes (request (d_of 3) (take 1 d_rules ++ drop 2 d_rules) d_orders)

-- the first 82 bytes of D are its records; here an ND stands after them
abbrev misplaced : List ℕ
misplaced = take 82 (bytes D) ++ (78 ∷ 68 ∷ 0 ∷ 0 ∷ 69 ∷ 78 ∷ [])

abbrev many : List ℕ
many = bytes (request (record { nodes = replicate 513 Fence; edges = [] }) fence_rules [])

-- "D with (0,1) asked a second time at the end: answer 6, place 14. Order (1,1): 6. Without fence to wildcard: 7."
-- "unknown or misplaced mark, record cut short, no EN, bytes after EN": the empty file, a byte short of EN, an ND after the orders, a byte after EN
-- "513 nodes: 2", at the first beyond 512
pub samples-refused :
    (Answered again (refused BadOrder 14) × Answered equal (refused BadOrder 14) × Answered one_way (refused NoFenceRules 0))
    × (Answered [] (refused Unreadable 0) × Answered (take 83 (bytes D)) (refused Unreadable 82))
    × (Answered misplaced (refused Unreadable 82) × Answered (bytes D ++ (0 ∷ [])) (refused Unreadable 84))
    × Answered many (refused TooMany 512)
unfolding bytes flat_map reading_of end_check record_at in_row count_in listed checked no_fences
    bad_node bad_edge same_pair repeated bad_left bad_right bad_rule bad_order leads earliest_from any
samples-refused = (
  (read_as again _ tt refl, read_as equal _ tt refl, read_as one_way _ tt refl),
  (read_as [] _ tt refl, read_as (take 83 (bytes D)) _ tt refl),
  (read_as misplaced _ tt refl, read_as (bytes D ++ (0 ∷ [])) _ tt refl),
  read_as many _ tt refl,
)
