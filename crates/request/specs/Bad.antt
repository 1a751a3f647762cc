-- Which answer applies at which place: answers 1 to 7 of document 01's table.
-- Assumes nothing.
use Rattle.std.specs.Prelude.{List, ◌∷◌, ◌⊎◌, ◌≢◌, ◌≡◌, ℕ, ◌+◌, ◌<◌, ◌≤◌, length, get_or}
use Rattle.graph.specs.declared.Edge.{Edge}
use Rattle.graph.specs.declared.Order.{Order}
use Rattle.graph.specs.Graph.{no_edge, order}
use Rattle.graph.specs.Limits.{most_nodes, most_edges, most_rules, most_orders}
use Rattle.request.specs.declared.Answer.{Answer}
use Rattle.request.specs.declared.Answer.TheVariants.{Unreadable, TooMany, BadNode, BadEdge, BadRule, BadOrder, NoFenceRules}
use Rattle.request.specs.Raw.{RawNode, RawRule, Raw, laid, size, file}

-- read past the last node
abbrev pub no_node : RawNode
no_node = record { kind = 0; address = 0 }

-- read past the last rule
abbrev pub no_rule : RawRule
no_rule = record { left = 0; left_variable = 0; right = 0; right_variable = 0 }

-- the first p bytes are records in order; the last of them may be EN
pub data Readable (s : List ℕ) : ℕ → Type 0 where
  records : (w : Raw) (rest : List ℕ) → s ≡ laid w rest → Readable s (size w)
  ended : (w : Raw) (rest : List ℕ) → s ≡ laid w (69 ∷ 78 ∷ rest) → Readable s (size w + 2)

-- 1, "unknown or misplaced mark, record cut short, no EN, bytes after EN": no file, and "the first record that can't be read" stands where the longest readable run of records ends
pub record Unread (s : List ℕ) (p : ℕ) : Type 0 where
  pub readable : Readable s p
  pub longest : (q : ℕ) → Readable s q → q ≤ p
  pub no_file : (w : Raw) → ¬ (s ≡ file w)

-- "Records are numbered from 0 over the whole file.": record p is number i of the n records of its mark, the first of which is record `start`, and it is wrong
abbrev pub Listed : ℕ → ℕ → (ℕ → Type 0) → ℕ → Type 0
Listed start n Wrong p = (i : ℕ) × (i < n) × Wrong i × (p ≡ start + i)

-- the record number of the first edge; that of the first node is 0
abbrev pub first_edge : Raw → ℕ
first_edge w = length w.nodes

-- the first of the rules
abbrev pub first_rule : Raw → ℕ
first_rule w = length w.nodes + length w.edges

-- the first of the orders
abbrev pub first_order : Raw → ℕ
first_order w = length w.nodes + length w.edges + length w.rules

-- 2, "more records of one mark than its limit", at the "first record beyond it"
abbrev pub Beyond : Raw → ℕ → Type 0
Beyond w p =
    Listed 0 (length w.nodes) (λ i. most_nodes ≤ i) p
    ⊎ (Listed (first_edge w) (length w.edges) (λ i. most_edges ≤ i) p
    ⊎ (Listed (first_rule w) (length w.rules) (λ i. most_rules ≤ i) p
    ⊎ Listed (first_order w) (length w.orders) (λ i. most_orders ≤ i) p))

-- 3, "node kind above 2, or a fence with an address"
abbrev pub WrongNode : RawNode → Type 0
WrongNode n = (2 < n.kind) ⊎ ((n.kind ≡ 2) × (n.address ≢ 0))

-- 4, "edge end not a node, weight 0, pair repeated"
abbrev pub WrongEdge : ℕ → List Edge → ℕ → Type 0
WrongEdge n es i =
    (n ≤ (get_or es i no_edge).from)
    ⊎ ((n ≤ (get_or es i no_edge).to)
    ⊎ (((get_or es i no_edge).weight ≡ 0)
    ⊎ ((j : ℕ) × (j < i) × (((get_or es j no_edge).from ≡ (get_or es i no_edge).from) × ((get_or es j no_edge).to ≡ (get_or es i no_edge).to)))))

-- 5, "rule kind above 3 or a variable not as above": "the first one used in a rule, reading left to right, is 1"
abbrev pub WrongLeft : RawRule → Type 0
WrongLeft r = (3 < r.left) ⊎ (((r.left < 2) × (r.left_variable ≢ 1)) ⊎ ((2 ≤ r.left) × (r.left_variable ≢ 0)))

-- "a right side has 2 only if the left side has 1"
abbrev pub WrongRight : RawRule → Type 0
WrongRight r =
    (3 < r.right)
    ⊎ (((r.right < 2) × ((r.right_variable ≢ 1) × ((r.right_variable ≢ 2) ⊎ (2 ≤ r.left))))
    ⊎ ((2 ≤ r.right) × (r.right_variable ≢ 0)))

-- 5: one of its sides is wrong
abbrev pub WrongRule : RawRule → Type 0
WrongRule r = WrongLeft r ⊎ WrongRight r

-- 6, "order node missing, ends equal, order repeated"
abbrev pub WrongOrder : ℕ → List Order → ℕ → Type 0
WrongOrder n os i =
    (n ≤ (order os i).first)
    ⊎ ((n ≤ (order os i).second)
    ⊎ (((order os i).first ≡ (order os i).second)
    ⊎ ((j : ℕ) × (j < i) × (((order os j).first ≡ (order os i).first) × ((order os j).second ≡ (order os i).second)))))

-- a rule from the one kind to the other is among them
abbrev pub Leads : List RawRule → ℕ → ℕ → Type 0
Leads rs left right = (i : ℕ) × (i < length rs) × (((get_or rs i no_rule).left ≡ left) × ((get_or rs i no_rule).right ≡ right))

-- 7, "wildcard to fence, or fence to wildcard, isn't among the rules"
abbrev pub Unfenced : Raw → Type 0
Unfenced w = (Leads w.rules 3 2 → ⊥) ⊎ (Leads w.rules 2 3 → ⊥)

-- "Given exactly when" and "Place": this answer applies at p; 2 to 7 only to a file that can be read
pub data Bad (s : List ℕ) : Answer → ℕ → Type 0 where
  unread : {p : ℕ} → Unread s p → Bad s Unreadable p
  beyond : {p : ℕ} (w : Raw) → s ≡ file w → Beyond w p → Bad s TooMany p
  wrong_node : {p : ℕ} (w : Raw) → s ≡ file w → Listed 0 (length w.nodes) (λ i. WrongNode (get_or w.nodes i no_node)) p → Bad s BadNode p
  wrong_edge : {p : ℕ} (w : Raw) → s ≡ file w → Listed (first_edge w) (length w.edges) (WrongEdge (length w.nodes) w.edges) p → Bad s BadEdge p
  wrong_rule : {p : ℕ} (w : Raw) → s ≡ file w → Listed (first_rule w) (length w.rules) (λ i. WrongRule (get_or w.rules i no_rule)) p → Bad s BadRule p
  wrong_order : {p : ℕ} (w : Raw) → s ≡ file w → Listed (first_order w) (length w.orders) (WrongOrder (length w.nodes) w.orders) p → Bad s BadOrder p
  unfenced : (w : Raw) → s ≡ file w → Unfenced w → Bad s NoFenceRules 0
