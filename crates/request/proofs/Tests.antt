-- The reader's tests decide what document 01 calls bad.
-- Assumes nothing.
use mathlib.Core.Bool.{Bool, ◌||◌}
use mathlib.Core.List.{List}
use mathlib.Core.Logic.{◌≢◌, ◌⊎◌}
use mathlib.Core.Path.{◌≡◌, refl, ap, subst⁻¹}
use Prim.Native.Nat.{◌*◌, ◌+◌, ◌<◌, ◌≤◌, suc, zero, ℕ}
use native.Mathlib.Omega.{arith}
use lib.ListN.{get_or}
use Rattle.graph.specs.declared.Edge.{Edge}
use Rattle.graph.specs.declared.Order.{Order}
use Rattle.request.specs.declared.Counts.{Counts}
use Rattle.request.specs.declared.Mark.{Mark}
use Rattle.request.specs.declared.Mark.TheVariants.{Nd, Ed, Ru, Or}
use Rattle.graph.specs.Graph.{no_edge, no_order, order}
use Rattle.request.specs.Bad.{Leads, WrongEdge, WrongNode, WrongOrder, WrongRule, no_node, no_rule}
use Rattle.request.specs.Decode.{records_in}
use Rattle.request.specs.Earliest.{any}
use Rattle.request.specs.Layout.{start_of, width}
use Rattle.request.specs.Tables.{bad_edge, bad_left, bad_node, bad_order, bad_right, bad_rule, leads, repeated, same_pair, some_leads, two_at}
use Rattle.graph.proofs.Says.{Says, says_and, says_eq, says_le, says_lt, says_not, says_or, some_below, says_below}
use Rattle.request.proofs.Records.{record_read, records_length}

any_below : (f : ℕ → Bool) (n : ℕ) → any f n ≡ some_below n f
unfolding any
any_below f zero = refl
any_below f (suc n) = ap (λ (b : Bool). f n || b) (any_below f n)

pub says_any : (f : ℕ → Bool) (P : ℕ → Type 0) (n : ℕ) → ((i : ℕ) → i < n → Says (f i) (P i)) → Says (any f n) ((i : ℕ) × (i < n) × P i)
says_any f P n s = subst⁻¹ (λ (b : Bool). Says b ((i : ℕ) × (i < n) × P i)) (any_below f n) (says_below n s)

says_left : (k v : ℕ) → Says (bad_left k v) ((3 < k) ⊎ (((k < 2) × (v ≢ 1)) ⊎ ((2 ≤ k) × (v ≢ 0))))
unfolding bad_left
says_left k v = says_or (says_lt 3 k) (says_or (says_and (says_lt k 2) (says_not (says_eq v 1))) (says_and (says_le 2 k) (says_not (says_eq v 0))))

says_right : (l k v : ℕ) → Says (bad_right l k v) ((3 < k) ⊎ (((k < 2) × ((v ≢ 1) × ((v ≢ 2) ⊎ (2 ≤ l)))) ⊎ ((2 ≤ k) × (v ≢ 0))))
unfolding bad_right
says_right l k v =
    says_or (says_lt 3 k)
    (says_or (says_and (says_lt k 2) (says_and (says_not (says_eq v 1)) (says_or (says_not (says_eq v 2)) (says_le 2 l))))
    (says_and (says_le 2 k) (says_not (says_eq v 0))))

module _ (s : List ℕ) (cs : Counts) where
  -- where record i of a mark stands
  abbrev at : Mark → ℕ → ℕ
  at m i = start_of cs m + i * width m

  -- byte k of it, and the number of two bytes there
  abbrev byte : Mark → ℕ → ℕ → ℕ
  byte m i k = get_or s (at m i + k) 0

  abbrev two : Mark → ℕ → ℕ → ℕ
  two m i k = two_at s (at m i + k)

  says_pair : (p q : ℕ) → Says (same_pair s p q) ((two_at s (p + 2) ≡ two_at s (q + 2)) × (two_at s (p + 4) ≡ two_at s (q + 4)))
  unfolding same_pair
  says_pair p q = says_and (says_eq (two_at s (p + 2)) (two_at s (q + 2))) (says_eq (two_at s (p + 4)) (two_at s (q + 4)))

  pub says_node : (i : ℕ) → i < cs.nodes → Says (bad_node s (at Nd i)) (WrongNode (get_or (records_in s cs Nd) i no_node))
  unfolding bad_node
  says_node i h =
      rw (record_read s cs Nd no_node i h)
      (says_or (says_lt 2 (byte Nd i 2)) (says_and (says_eq (byte Nd i 2) 2) (says_not (says_eq (byte Nd i 3) 0))))

  abbrev es : List Edge
  es = records_in s cs Ed

  pub says_edge : (i : ℕ) → i < cs.edges → Says (bad_edge s cs.nodes (start_of cs Ed) i) (WrongEdge cs.nodes es i)
  unfolding bad_edge repeated
  says_edge i h =
      rw (record_read s cs Ed no_edge i h)
      (says_or (says_le cs.nodes (two Ed i 2))
      (says_or (says_le cs.nodes (two Ed i 4))
      (says_or (says_eq (two Ed i 6) 0)
      (says_any (λ j. same_pair s (at Ed j) (at Ed i))
      (λ j. ((get_or es j no_edge).from ≡ two Ed i 2) × ((get_or es j no_edge).to ≡ two Ed i 4))
      i
      (λ j l. rw (record_read s cs Ed no_edge j (omega arith)) (says_pair (at Ed j) (at Ed i)))))))

  pub says_rule : (i : ℕ) → i < cs.rules → Says (bad_rule s (at Ru i)) (WrongRule (get_or (records_in s cs Ru) i no_rule))
  unfolding bad_rule
  says_rule i h =
      rw (record_read s cs Ru no_rule i h)
      (says_or (says_left (byte Ru i 2) (byte Ru i 3)) (says_right (byte Ru i 2) (byte Ru i 4) (byte Ru i 5)))

  abbrev os : List Order
  os = records_in s cs Or

  pub says_order : (i : ℕ) → i < cs.orders → Says (bad_order s cs.nodes (start_of cs Or) i) (WrongOrder cs.nodes os i)
  unfolding bad_order repeated
  says_order i h =
      rw (record_read s cs Or no_order i h)
      (says_or (says_le cs.nodes (two Or i 2))
      (says_or (says_le cs.nodes (two Or i 4))
      (says_or (says_eq (two Or i 2) (two Or i 4))
      (says_any (λ j. same_pair s (at Or j) (at Or i))
      (λ j. ((order os j).first ≡ two Or i 2) × ((order os j).second ≡ two Or i 4))
      i
      (λ j l. rw (record_read s cs Or no_order j (omega arith)) (says_pair (at Or j) (at Or i)))))))

  abbrev Leading : ℕ → ℕ → ℕ → Type 0
  Leading a b i = ((get_or (records_in s cs Ru) i no_rule).left ≡ a) × ((get_or (records_in s cs Ru) i no_rule).right ≡ b)

  pub says_leads : (a b : ℕ) → Says (some_leads s (start_of cs Ru) cs.rules a b) (Leads (records_in s cs Ru) a b)
  says_leads a b = rw (records_length s cs Ru) (says_any (λ i. leads s a b (at Ru i)) (Leading a b) cs.rules one)
    where
      one : (i : ℕ) → i < cs.rules → Says (leads s a b (at Ru i)) (Leading a b i)
      one i h = rw (record_read s cs Ru no_rule i h) (unfold leads in says_and (says_eq (byte Ru i 2) a) (says_eq (byte Ru i 4) b))
