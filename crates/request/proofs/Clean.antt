-- Records to which no answer applies are those of a proper request.
-- Assumes nothing.
use mathlib.Core.List.{Memᴰ, map}
use mathlib.Core.Logic.{inl, inr}
use mathlib.Core.Path.{◌∙◌, ◌≡◌, ap, refl, subst, sym}
use Prim.Native.Nat.{◌+◌, ◌<◌, ◌≤◌, ℕ}
use native.Mathlib.Omega.{arith}
use lib.ListN.{get_or, length, length-map}
use Rattle.graph.specs.declared.Label.TheVariants.{Fence}
use Rattle.graph.specs.declared.Rule.{Rule}
use Rattle.graph.specs.declared.Side.{Side}
use Rattle.graph.specs.declared.Side.TheVariants.{Any, Is}
use Rattle.request.specs.declared.Answer.TheVariants.{BadEdge, BadNode, BadOrder, BadRule, NoFenceRules, NoRoom, NoSuchOrder, NotLoose, ShortBuffer, TooMany, Unreadable}
use Rattle.graph.specs.Graph.{Orderly, Sound, no_edge, order}
use Rattle.request.specs.Bad.{Leads, WrongEdge, WrongNode, WrongOrder, WrongRule, first_edge, first_order, first_rule, no_node, no_rule}
use Rattle.request.specs.Decode.{label_of_node, raw_label, raw_rule, raw_side, rawed, rule_of, understood}
use Rattle.request.specs.File.{Request}
use Rattle.request.specs.Proper.{Proper}
use Rattle.request.specs.Raw.{Raw, RawRule}
use Rattle.graph.proofs.Members.{at_mem, mem_at}
use Rattle.graph.proofs.Says.{says_and, says_below, says_eq, stable}
use Rattle.request.proofs.Faults.{Clean}
use Rattle.request.proofs.Mapped.{map_back, map_mem, mapped_at, mem_map}
use Rattle.request.proofs.Sides.{label_addressed, label_back, label_good, plain, rule_back, rule_formed, rule_good}

pub clean_rawed : (w : Raw) → Clean w → rawed (understood w) ≡ w
clean_rawed w C =
    let p = map_back label_of_node raw_label no_node w.nodes (λ i h. label_back (get_or w.nodes i no_node) (λ b. C BadNode (0 + i) (i, h, b, refl))) in
    let q = map_back rule_of raw_rule no_rule w.rules (λ i h. rule_back (get_or w.rules i no_rule) (λ b. C BadRule (first_rule w + i) (i, h, b, refl))) in
    λ i. record { nodes = p i; edges = w.edges; rules = q i; orders = w.orders }

-- the fields fit into their bytes
pub record Narrow (w : Raw) : Type 0 where
  pub addresses : (i : ℕ) → i < length w.nodes → (get_or w.nodes i no_node).address < 256
  pub weights : (i : ℕ) → i < length w.edges → (get_or w.edges i no_edge).weight < 65536

-- none is beyond the limit
few : (n most : ℕ) → ((i : ℕ) → i < n → most ≤ i → ⊥) → n ≤ most
few n most f = let g : most < n → ⊥ = λ h. f most h (omega arith) in omega (arith, g)

module _ (w : Raw) (C : Clean w) where
  edge_right : (i : ℕ) → i < length w.edges → WrongEdge (length w.nodes) w.edges i → ⊥
  edge_right i h b = C BadEdge (first_edge w + i) (i, h, b, refl)

  order_right : (i : ℕ) → i < length w.orders → WrongOrder (length w.nodes) w.orders i → ⊥
  order_right i h b = C BadOrder (first_order w + i) (i, h, b, refl)

  -- a rule that is not missing is there
  led : (a b : ℕ) → ((Leads w.rules a b → ⊥) → ⊥) → Leads w.rules a b
  led a b n =
      stable (says_below (length w.rules) (λ i h.
      says_and (says_eq (get_or w.rules i no_rule).left a) (says_eq (get_or w.rules i no_rule).right b))) n

  leading : {a b : ℕ} {x : Rule} → ((r : RawRule) → r.left ≡ a → r.right ≡ b → x ≡ rule_of r) → Leads w.rules a b → Memᴰ x (map rule_of w.rules)
  leading f (i, h, (p, q)) = map_mem rule_of no_rule w.rules i _ h (f (get_or w.rules i no_rule) p q)

  sound : Sound (understood w).graph
  sound = record {
    ends = λ i h.
        let a : length w.nodes ≤ (get_or w.edges i no_edge).from → ⊥ = λ x. edge_right i h (inl x) in
        let b : length w.nodes ≤ (get_or w.edges i no_edge).to → ⊥ = λ x. edge_right i h (inr (inl x)) in
        let d : (get_or w.edges i no_edge).weight ≡ 0 → ⊥ = λ x. edge_right i h (inr (inr (inl x))) in
        (omega (arith, a, length-map w.nodes label_of_node), omega (arith, b, length-map w.nodes label_of_node), omega (arith, d));
    pairs = λ i j h k p q.
        let a : i < j → ⊥ = λ l. edge_right j k (inr (inr (inr (i, l, (p, q))))) in
        let b : j < i → ⊥ = λ l. edge_right i h (inr (inr (inr (j, l, (sym p, sym q))))) in
        omega (arith, a, b);
  }

  orderly : Orderly (length (map label_of_node w.nodes)) w.orders
  orderly = record {
    ends = λ i h.
        let a : length w.nodes ≤ (order w.orders i).first → ⊥ = λ x. order_right i h (inl x) in
        let b : length w.nodes ≤ (order w.orders i).second → ⊥ = λ x. order_right i h (inr (inl x)) in
        (omega (arith, a, length-map w.nodes label_of_node), omega (arith, b, length-map w.nodes label_of_node), λ x. order_right i h (inr (inr (inl x))));
    once = λ i j h k p q.
        let a : i < j → ⊥ = λ l. order_right j k (inr (inr (inr (i, l, (p, q))))) in
        let b : j < i → ⊥ = λ l. order_right i h (inr (inr (inr (j, l, (sym p, sym q))))) in
        omega (arith, a, b);
  }

  pub clean_proper : Narrow w → Proper (understood w)
  clean_proper N = record {
    few_nodes = rw (length-map w.nodes label_of_node) (few _ _ (λ i h l. C TooMany (0 + i) (inl (i, h, l, refl))));
    few_edges = few _ _ (λ i h l. C TooMany (first_edge w + i) (inr (inl (i, h, l, refl))));
    few_rules = rw (length-map w.rules rule_of) (few _ _ (λ i h l. C TooMany (first_rule w + i) (inr (inr (inl (i, h, l, refl))))));
    few_orders = few _ _ (λ i h l. C TooMany (first_order w + i) (inr (inr (inr (i, h, l, refl)))));
    addressed = λ x m. let a = mem_map label_of_node no_node w.nodes m in
        rw a.2 (label_addressed (get_or w.nodes a.0 no_node) (N.addresses a.0 a.1));
    sound = sound;
    light = N.weights;
    formed = λ x m. let a = mem_map rule_of no_rule w.rules m in
        rw a.2 (rule_formed _ (λ b. C BadRule (first_rule w + a.0) (a.0, a.1, b, refl)));
    orderly = orderly;
    fences = record {
      to_fence = leading (λ r p q. rw (p, q) refl) (led 3 2 (λ n. C NoFenceRules 0 (inl n, refl)));
      from_fence = leading (λ r p q. rw (p, q) refl) (led 2 3 (λ n. C NoFenceRules 0 (inr n, refl)));
    };
  }

module _ (r : Request) (P : Proper r) where
  edge_wrong : (i : ℕ) → i < length r.graph.edges → WrongEdge (length r.graph.nodes) r.graph.edges i → ⊥
  edge_wrong i h (inl x) = let e = P.sound.ends i h in omega (arith, e.0)
  edge_wrong i h (inr (inl x)) = let e = P.sound.ends i h in omega (arith, e.1)
  edge_wrong i h (inr (inr (inl x))) = let e = P.sound.ends i h in omega (arith, e.2)
  edge_wrong i h (inr (inr (inr (j, l, (p, q))))) = omega (arith, P.sound.pairs j i (omega arith) h p q)

  rule_wrong : (i : ℕ) → i < length r.rules → WrongRule (get_or (map raw_rule r.rules) i no_rule) → ⊥
  rule_wrong i h b =
      let x = get_or r.rules i plain in
      rule_good x (P.formed x (at_mem plain r.rules i h)) (subst WrongRule (mapped_at raw_rule no_rule r.rules i plain h) b)

  order_wrong : (i : ℕ) → i < length r.orders → WrongOrder (length r.graph.nodes) r.orders i → ⊥
  order_wrong i h (inl x) = let e = P.orderly.ends i h in omega (arith, e.0)
  order_wrong i h (inr (inl x)) = let e = P.orderly.ends i h in omega (arith, e.1)
  order_wrong i h (inr (inr (inl x))) = (P.orderly.ends i h).2 x
  order_wrong i h (inr (inr (inr (j, l, (p, q))))) = omega (arith, P.orderly.once j i (omega arith) h p q)

  leads_there : (a b : Side) → (i : ℕ) × (i < length r.rules) × (record { left = a; right = b } ≡ get_or r.rules i plain)
      → Leads (map raw_rule r.rules) (raw_side a).kind (raw_side b).kind
  leads_there a b (i, h, e) =
      let x = mapped_at raw_rule no_rule r.rules i plain h ∙ ap raw_rule (sym e) in
      (i, rw (length-map r.rules raw_rule) h, (ap (λ (y : RawRule). y.left) x, ap (λ (y : RawRule). y.right) x))

  pub proper_clean : Clean (rawed r)
  proper_clean Unreadable q b = b
  proper_clean TooMany q (inl (i, h, l, e)) = omega (arith, P.few_nodes, length-map r.graph.nodes raw_label)
  proper_clean TooMany q (inr (inl (i, h, l, e))) = omega (arith, P.few_edges)
  proper_clean TooMany q (inr (inr (inl (i, h, l, e)))) = omega (arith, P.few_rules, length-map r.rules raw_rule)
  proper_clean TooMany q (inr (inr (inr (i, h, l, e)))) = omega (arith, P.few_orders)
  proper_clean BadNode q (i, h, b, e) =
      let l : i < length r.graph.nodes = omega (arith, h, length-map r.graph.nodes raw_label) in
      label_good (get_or r.graph.nodes i Fence) (subst WrongNode (mapped_at raw_label no_node r.graph.nodes i Fence l) b)
  proper_clean BadEdge q (i, h, b, e) = edge_wrong i h (rw (length-map r.graph.nodes raw_label) at b)
  proper_clean BadRule q (i, h, b, e) = rule_wrong i (omega (arith, h, length-map r.rules raw_rule)) b
  proper_clean BadOrder q (i, h, b, e) = order_wrong i h (rw (length-map r.graph.nodes raw_label) at b)
  proper_clean NoFenceRules q (inl n, e) = n (leads_there Any (Is Fence) (mem_at plain r.rules P.fences.to_fence))
  proper_clean NoFenceRules q (inr n, e) = n (leads_there (Is Fence) Any (mem_at plain r.rules P.fences.from_fence))
  proper_clean NoSuchOrder q b = b
  proper_clean NoRoom q b = b
  proper_clean NotLoose q b = b
  proper_clean ShortBuffer q b = b
