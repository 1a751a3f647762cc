-- A node's row of the rules, made rule by rule from the nodes that a right side matches and those at the node's address, is what the rules say.
-- Assumes nothing.
use mathlib.Core.Bool.{Bool, true, false, ◌&&◌, ◌||◌, and-false, and-or_distrib_left}
use mathlib.Core.List.{List}
use mathlib.Core.Path.{◌≡◌, refl, sym, ap, ap₂, ◌∙◌}
use Prim.Native.Nat.{ℕ, ◌+◌, ◌<◌}
use native.Mathlib.Numerals.{add-one}
use native.Mathlib.Decide.{ℕ_discrete}
use native.Mathlib.Omega.{arith}
use lib.Dec.{ltb}
use lib.ListN.{length, get_or, take, set}
use lib.Seq.{get_or-set_same, get_or-set_other}
use Rattle.flags.specs.Flag.{flag, either, both}
use Rattle.flags.proofs.Digit.{flag_zero}
use Rattle.flags.proofs.Pair.{either-flag, both-flag}
use Rattle.graph.specs.declared.Label.{Label}
use Rattle.graph.specs.declared.Label.TheVariants.{Store, Load, Fence}
use Rattle.graph.specs.declared.Node.{Node}
use Rattle.graph.specs.declared.Rule.{Rule}
use Rattle.graph.specs.declared.Side.{Side}
use Rattle.graph.specs.declared.Side.TheVariants.{Any, Is}
use Rattle.graph.specs.declared.Want.{Want}
use Rattle.graph.specs.declared.Want.TheVariants.{Never, Free, Var}
use Rattle.graph.specs.Tests.{want_of, agree, fit_of, ruledb}
use Rattle.graph.proofs.Ruled.{some_or}
use Rattle.sets.specs.Whole.{whole}
use Rattle.words.specs.Words.{listed, label_at}
use Rattle.words.specs.Rows.{matchb, addressedb, nearb, namesb, part, no_rule, RowOf, Rights}

-- ---- one rule, one node

free_part : (w : Want) → matchb w ≡ agree Free w
free_part Never = refl
free_part Free = refl
free_part (Var x a) = refl

var_part : (x a : ℕ) (R : Side) (k : Label) → part (Var x a) R (matchb (want_of R k)) (addressedb a k) ≡ agree (Var x a) (want_of R k)
var_part x a Any k = refl
var_part x a (Is (Store y)) (Store b) = refl
var_part x a (Is (Store y)) (Load b) = refl
var_part x a (Is (Store y)) Fence = refl
var_part x a (Is (Load y)) (Store b) = refl
var_part x a (Is (Load y)) (Load b) = refl
var_part x a (Is (Load y)) Fence = refl
var_part x a (Is Fence) (Store b) = refl
var_part x a (Is Fence) (Load b) = refl
var_part x a (Is Fence) Fence = refl

fit_part : (L R : Side) (l k : Label) → part (want_of L l) R (matchb (want_of R k)) (nearb l k) ≡ agree (want_of L l) (want_of R k)
fit_part Any R l k = free_part (want_of R k)
fit_part (Is (Store x)) R (Store a) k = var_part x a R k
fit_part (Is (Store x)) R (Load a) k = refl
fit_part (Is (Store x)) R Fence k = refl
fit_part (Is (Load x)) R (Store a) k = refl
fit_part (Is (Load x)) R (Load a) k = var_part x a R k
fit_part (Is (Load x)) R Fence k = refl
fit_part (Is Fence) R (Store a) k = refl
fit_part (Is Fence) R (Load a) k = refl
fit_part (Is Fence) R Fence k = free_part (want_of R k)

no_part : (w : Want) (R : Side) (c : Bool) → part w R false c ≡ false
no_part Never R c = refl
no_part Free R c = refl
no_part (Var x a) R c = refl

-- the same of what may be no node
part_fits : (rule : Rule) (l k : Label) (b : Bool)
    → part (want_of rule.left l) rule.right (b && matchb (want_of rule.right k)) (b && nearb l k) ≡ (b && fit_of rule l k)
part_fits rule l k true = fit_part rule.left rule.right l k
part_fits rule l k false = no_part (want_of rule.left l) rule.right false

-- ---- one rule after the other

module _ (rights : List ℕ) (rules : List Rule) (l : Label) (close : ℕ) where
  pub row_none : (row : ℕ) → row ≡ 0 → RowOf rights rules l close 0 row
  row_none row e q b k r c = rw e (flag_zero q ∙ sym (and-false b))

  pub row_more : (i row right one more : ℕ) → i < length rules → right ≡ get_or rights i 0
      → ((q : ℕ) → flag one q ≡ part (want_of (get_or rules i no_rule).left l) (get_or rules i no_rule).right (flag right q) (flag close q))
      → more ≡ either row one
      → RowOf rights rules l close i row → RowOf rights rules l close (i + 1) more
  row_more i row right one more len e o f was q b k r c =
      let rule = get_or rules i no_rule in
      let right' : flag right q ≡ (b && matchb (want_of rule.right k)) = ap (λ (w : ℕ). flag w q) e ∙ r i len in
      let one' : flag one q ≡ (b && fit_of rule l k) = o q ∙ ap₂ (part (want_of rule.left l) rule.right) right' c ∙ part_fits rule l k b in
      let all : ruledb (take (i + 1) rules) l k ≡ (ruledb (take i rules) l k || fit_of rule l k) =
      rw (add-one i) (some_or (λ (x : Rule). fit_of x l k) rules i no_rule len) in
      ap (λ (w : ℕ). flag w q) f ∙ either-flag row one q ∙ ap₂ ◌||◌ (was q b k r c) one'
      ∙ sym (and-or_distrib_left b (ruledb (take i rules) l k) (fit_of rule l k)) ∙ ap (λ (x : Bool). b && x) (sym all)

-- ---- the right sides

module _ (nodes : List Node) (rules : List Rule) where
  pub rights_more : (i w : ℕ) (rights : List ℕ) → i < length rights
      → ((q : ℕ) → flag w q ≡ (ltb q (length nodes) && matchb (want_of (get_or rules i no_rule).right (label_at nodes q))))
      → Rights nodes rules i rights → Rights nodes rules (i + 1) (set rights i w)
  rights_more i w rights len f was j q h = go (ℕ_discrete j i)
    where
      go : Dec (j ≡ i) → listed (set rights i w) j q ≡ (ltb q (length nodes) && matchb (want_of (get_or rules j no_rule).right (label_at nodes q)))
      go (yes p) = rw p (ap (λ (x : ℕ). flag x q) (get_or-set_same rights i w 0 len) ∙ f q)
      go (no d) = ap (λ (x : ℕ). flag x q) (get_or-set_other rights i j w 0 d) ∙ was j q (omega arith)

-- ---- what `fitted` gives, by what the left side wants

module _ (rule : Rule) (l : Label) (right close : List ℕ) {w : Want} (wants : w ≡ want_of rule.left l) where
  -- of a node: `row` has it where the rule fits
  abbrev Fits : ℕ → Type 0
  Fits row = (q : ℕ) → flag row q ≡ part (want_of rule.left l) rule.right (flag (whole right) q) (flag (whole close) q)

  pub fitted_never : {row : ℕ} → w ≡ Never → row ≡ 0 → Fits row
  fitted_never e z q = rw (z, ← wants, e) (flag_zero q)

  pub fitted_same : {x a row : ℕ} → w ≡ Var x a → namesb rule.right x ≡ true → row ≡ both (whole right) (whole close) → Fits row
  fitted_same e s f q = rw (f, ← wants, e, s) (both-flag (whole right) (whole close) q)
