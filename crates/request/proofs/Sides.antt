-- Labels, sides and rules, and the numbers that stand for them, there and back.
-- Assumes nothing.
use mathlib.Core.Bool.{Bool, false, true, cond}
use mathlib.Core.List.{[], ◌∷◌}
use mathlib.Core.Logic.{◌≢◌, ◌⊎◌, inl, inr}
use mathlib.Core.Path.{◌≡◌, refl, sym}
use Prim.Native.Nat.{◌<◌, ◌≤◌, suc, zero, ℕ}
use native.Mathlib.Omega.{arith}
use lib.Dec.{eqb}
use lib.ListN.{get_or}
use Rattle.graph.specs.declared.Label.{Label}
use Rattle.graph.specs.declared.Label.TheVariants.{Fence, Load, Store}
use Rattle.graph.specs.declared.Rule.{Rule}
use Rattle.graph.specs.declared.Side.{Side}
use Rattle.graph.specs.declared.Side.TheVariants.{Any, Is}
use Rattle.request.specs.Bad.{WrongNode, WrongRule}
use Rattle.request.specs.Decode.{label_of_node, raw_label, raw_rule, raw_side, rawed, rule_of, side_of, understood}
use Rattle.request.specs.File.{Request, bytes, node_bytes, rule_bytes, side_bytes}
use Rattle.request.specs.Proper.{Addressed, Formed, FormedLeft, FormedRight, HasVariable}
use Rattle.request.specs.Raw.{RawNode, RawRule, file, raw_node_bytes, raw_rule_bytes}
use Rattle.graph.proofs.Says.{decide, says_eq, stable}
use Rattle.request.proofs.Mapped.{map_back, map_flat}

-- ---- the same bytes

node_same : (l : Label) → node_bytes l ≡ raw_node_bytes (raw_label l)
node_same (Store a) = refl
node_same (Load a) = refl
node_same Fence = refl

side_same : (x : Side) → side_bytes x ≡ (raw_side x).kind ∷ (raw_side x).address ∷ []
side_same (Is (Store v)) = refl
side_same (Is (Load v)) = refl
side_same (Is Fence) = refl
side_same Any = refl

rule_same : (r : Rule) → rule_bytes r ≡ raw_rule_bytes (raw_rule r)
rule_same r = rw (side_same r.left, side_same r.right) refl

pub file-rawed : (r : Request) → bytes r ≡ file (rawed r)
unfolding bytes
file-rawed r =
    rw (map_flat raw_label node_bytes raw_node_bytes node_same r.graph.nodes, map_flat raw_rule rule_bytes raw_rule_bytes rule_same r.rules) refl

-- ---- from a request to the numbers and back

label_there : (l : Label) → label_of_node (raw_label l) ≡ l
label_there (Store a) = refl
label_there (Load a) = refl
label_there Fence = refl

side_there : (x : Side) → side_of (raw_side x).kind (raw_side x).address ≡ x
side_there (Is (Store v)) = refl
side_there (Is (Load v)) = refl
side_there (Is Fence) = refl
side_there Any = refl

rule_there : (r : Rule) → rule_of (raw_rule r) ≡ r
rule_there r = let p = side_there r.left in let q = side_there r.right in λ i. record { left = p i; right = q i }

abbrev pub plain : Rule
plain = record { left = Any; right = Any }

pub understood-rawed : (r : Request) → understood (rawed r) ≡ r
understood-rawed r =
    let p = map_back raw_label label_of_node Fence r.graph.nodes (λ i h. label_there (get_or r.graph.nodes i Fence)) in
    let q = map_back raw_rule rule_of plain r.rules (λ i h. rule_there (get_or r.rules i plain)) in
    λ i. record { graph = record { nodes = p i; edges = r.graph.edges }; rules = q i; orders = r.orders }

-- ---- from numbers that are not wrong to what they mean, and back

pub label_back : (n : RawNode) → (WrongNode n → ⊥) → raw_label (label_of_node n) ≡ n
label_back n b = go n.kind refl
  where
    go : (k : ℕ) → n.kind ≡ k → raw_label (label_of_node n) ≡ n
    go zero e = rw e refl
    go (suc zero) e = rw e refl
    go (suc (suc zero)) e = let a = sym (stable (says_eq n.address 0) (λ z. b (inr (e, z)))) in rw e (λ i. record { kind = 2; address = a i })
    go (suc (suc (suc k))) e = absurd (b (inl (omega arith)))

-- what holds of each kind that a rule may have
kinds : (P : ℕ → Type 0) → P 0 → P 1 → P 2 → P 3 → (k : ℕ) → k ≤ 3 → P k
kinds P a b c d zero h = a
kinds P a b c d (suc zero) h = b
kinds P a b c d (suc (suc zero)) h = c
kinds P a b c d (suc (suc (suc zero))) h = d
kinds P a b c d (suc (suc (suc (suc k)))) h = absurd (let z : ⊥ = omega arith in z)

side_back : (k v : ℕ) → k ≤ 3 → (2 ≤ k → v ≡ 0) → ((raw_side (side_of k v)).kind ≡ k) × ((raw_side (side_of k v)).address ≡ v)
side_back k v = kinds (λ k. (2 ≤ k → v ≡ 0) → ((raw_side (side_of k v)).kind ≡ k) × ((raw_side (side_of k v)).address ≡ v))
    (λ z. (refl, refl)) (λ z. (refl, refl)) (λ z. (refl, sym (z (omega arith)))) (λ z. (refl, sym (z (omega arith)))) k

left_formed : (k v : ℕ) → k ≤ 3 → (k < 2 → v ≡ 1) → FormedLeft (side_of k v)
left_formed k v = kinds (λ k. (k < 2 → v ≡ 1) → FormedLeft (side_of k v)) (λ z. z (omega arith)) (λ z. z (omega arith)) (λ z. tt) (λ z. tt) k

has_variable : (k v : ℕ) → k < 2 → HasVariable (side_of k v)
has_variable k v h = kinds (λ k. k < 2 → HasVariable (side_of k v)) (λ z. tt) (λ z. tt) (λ z. omega arith) (λ z. omega arith) k (omega arith) h

right_variable : (l u v : ℕ) → (v ≡ 1) ⊎ ((v ≡ 2) × (l < 2)) → (v ≡ 1) ⊎ ((v ≡ 2) × HasVariable (side_of l u))
right_variable l u v (inl e) = inl e
right_variable l u v (inr (e, q)) = inr (e, has_variable l u q)

right_formed : (l u k v : ℕ) → k ≤ 3 → (k < 2 → (v ≡ 1) ⊎ ((v ≡ 2) × (l < 2))) → FormedRight (side_of l u) (side_of k v)
right_formed l u k v = kinds (λ k. (k < 2 → (v ≡ 1) ⊎ ((v ≡ 2) × (l < 2))) → FormedRight (side_of l u) (side_of k v))
    (λ z. right_variable l u v (z (omega arith))) (λ z. right_variable l u v (z (omega arith))) (λ z. tt) (λ z. tt) k

module _ (r : RawRule) (b : WrongRule r → ⊥) where
  left_low : r.left ≤ 3
  left_low = let n : 3 < r.left → ⊥ = λ h. b (inl (inl h)) in omega (arith, n)

  right_low : r.right ≤ 3
  right_low = let n : 3 < r.right → ⊥ = λ h. b (inr (inl h)) in omega (arith, n)

  left_zero : 2 ≤ r.left → r.left_variable ≡ 0
  left_zero h = stable (says_eq r.left_variable 0) (λ e. b (inl (inr (inr (h, e)))))

  right_zero : 2 ≤ r.right → r.right_variable ≡ 0
  right_zero h = stable (says_eq r.right_variable 0) (λ e. b (inr (inr (inr (h, e)))))

  left_one : r.left < 2 → r.left_variable ≡ 1
  left_one h = stable (says_eq r.left_variable 1) (λ e. b (inl (inr (inl (h, e)))))

  right_one : r.right < 2 → (r.right_variable ≡ 1) ⊎ ((r.right_variable ≡ 2) × (r.left < 2))
  right_one h = elim (decide (says_eq r.right_variable 1)) [
    | inl e ↦ inl e
    | inr e ↦ elim (decide (says_eq r.right_variable 2)) [
      | inl q ↦ let n : 2 ≤ r.left → ⊥ = λ l. b (inr (inr (inl (h, (e, inr l))))) in inr (q, omega (arith, n))
      | inr q ↦ absurd (b (inr (inr (inl (h, (e, inl q))))))
    ]
  ]

  pub rule_back : raw_rule (rule_of r) ≡ r
  rule_back =
      let p = side_back r.left r.left_variable left_low left_zero in
      let q = side_back r.right r.right_variable right_low right_zero in
      λ i. record { left = p.0 i; left_variable = p.1 i; right = q.0 i; right_variable = q.1 i }

  pub rule_formed : Formed (rule_of r)
  rule_formed = (
    left_formed r.left r.left_variable left_low left_one,
    right_formed r.left r.left_variable r.right r.right_variable right_low right_one,
  )

pub label_addressed : (n : RawNode) → n.address < 256 → Addressed (label_of_node n)
label_addressed n h = go (eqb n.kind 0) (eqb n.kind 1)
  where
    go : (x y : Bool) → Addressed (cond x (Store n.address) (cond y (Load n.address) Fence))
    go true y = h
    go false true = h
    go false false = tt

-- ---- what is well formed isn't wrong

side_low : (x : Side) → 3 < (raw_side x).kind → ⊥
side_low (Is (Store v)) h = omega arith
side_low (Is (Load v)) h = omega arith
side_low (Is Fence) h = omega arith
side_low Any h = omega arith

variable_low : (x : Side) → HasVariable x → (raw_side x).kind < 2
variable_low (Is (Store v)) h = omega arith
variable_low (Is (Load v)) h = omega arith
variable_low (Is Fence) h = absurd h
variable_low Any h = absurd h

side_zero : (x : Side) → 2 ≤ (raw_side x).kind → (raw_side x).address ≢ 0 → ⊥
side_zero (Is (Store v)) h n = omega arith
side_zero (Is (Load v)) h n = omega arith
side_zero (Is Fence) h n = n refl
side_zero Any h n = n refl

left_good : (x : Side) → FormedLeft x → (raw_side x).kind < 2 → (raw_side x).address ≢ 1 → ⊥
left_good (Is (Store v)) f h n = n f
left_good (Is (Load v)) f h n = n f
left_good (Is Fence) f h n = omega arith
left_good Any f h n = omega arith

variable_good : (l : Side) (v : ℕ) → (v ≡ 1) ⊎ ((v ≡ 2) × HasVariable l) → (v ≢ 1) × ((v ≢ 2) ⊎ (2 ≤ (raw_side l).kind)) → ⊥
variable_good l v (inl e) (n, m) = n e
variable_good l v (inr (e, h)) (n, inl m) = m e
variable_good l v (inr (e, h)) (n, inr m) = let k = variable_low l h in omega arith

right_good : (l x : Side) → FormedRight l x → (raw_side x).kind < 2
    → ((raw_side x).address ≢ 1) × (((raw_side x).address ≢ 2) ⊎ (2 ≤ (raw_side l).kind)) → ⊥
right_good l (Is (Store v)) f h n = variable_good l v f n
right_good l (Is (Load v)) f h n = variable_good l v f n
right_good l (Is Fence) f h n = omega arith
right_good l Any f h n = omega arith

pub rule_good : (r : Rule) → Formed r → WrongRule (raw_rule r) → ⊥
rule_good r f (inl (inl h)) = side_low r.left h
rule_good r f (inl (inr (inl (h, n)))) = left_good r.left f.0 h n
rule_good r f (inl (inr (inr (h, n)))) = side_zero r.left h n
rule_good r f (inr (inl h)) = side_low r.right h
rule_good r f (inr (inr (inl (h, n)))) = right_good r.left r.right f.1 h n
rule_good r f (inr (inr (inr (h, n)))) = side_zero r.right h n

pub label_good : (l : Label) → WrongNode (raw_label l) → ⊥
label_good (Store a) (inl h) = omega arith
label_good (Load a) (inl h) = omega arith
label_good Fence (inl h) = omega arith
label_good (Store a) (inr (h, n)) = omega arith
label_good (Load a) (inr (h, n)) = omega arith
label_good Fence (inr (h, n)) = n refl
