-- What a node's row of the rules is made from: for each rule the nodes that its right side matches, and the nodes at the node's address.
-- Assumes nothing.
use Rattle.std.specs.Prelude.{Bool, true, false, ◌&&◌, List, ◌≡◌, ℕ, ◌<◌, eqb, ltb, get_or, take, length}
use Rattle.flags.specs.Flag.{flag}
use Rattle.graph.specs.declared.Label.{Label}
use Rattle.graph.specs.declared.Label.TheVariants.{Store, Load, Fence}
use Rattle.graph.specs.declared.Node.{Node}
use Rattle.graph.specs.declared.Rule.{Rule}
use Rattle.graph.specs.declared.Side.{Side}
use Rattle.graph.specs.declared.Side.TheVariants.{Any, Is}
use Rattle.graph.specs.declared.Want.{Want}
use Rattle.graph.specs.declared.Want.TheVariants.{Never, Free, Var}
use Rattle.graph.specs.Tests.{want_of, if_same, ruledb}
use Rattle.words.specs.Words.{listed, label_at}

-- a side that wants this matches, whatever its variable stands for
abbrev pub matchb : Want → Bool
matchb Never = false
matchb Free = true
matchb (Var x a) = true

-- the label has this address
abbrev pub addressedb : ℕ → Label → Bool
addressedb a (Store b) = eqb a b
addressedb a (Load b) = eqb a b
addressedb a Fence = false

-- the two labels have one address
abbrev pub nearb : Label → Label → Bool
nearb (Store a) m = addressedb a m
nearb (Load a) m = addressedb a m
nearb Fence m = false

-- the side has the variable x
abbrev pub namesb : Side → ℕ → Bool
namesb Any x = false
namesb (Is (Store y)) x = eqb x y
namesb (Is (Load y)) x = eqb x y
namesb (Is Fence) x = false

-- a rule whose left side wants w fits: by whether its right side matches, and whether the addresses agree
abbrev pub part : Want → Side → Bool → Bool → Bool
part Never side right close = false
part Free side right close = right
part (Var x a) side right close = right && if_same (namesb side x) close

-- beside the rules: what is read past the last
abbrev pub no_rule : Rule
no_rule = record { left = Any; right = Any }

-- `row` has what the first i rules fit with l: of a node labelled k, and of none where b is false
abbrev pub RowOf : List ℕ → List Rule → Label → ℕ → ℕ → ℕ → Type 0
RowOf rights rules l close i row = (q : ℕ) (b : Bool) (k : Label)
    → ((j : ℕ) → j < length rules → listed rights j q ≡ (b && matchb (want_of (get_or rules j no_rule).right k)))
    → flag close q ≡ (b && nearb l k)
    → flag row q ≡ (b && ruledb (take i rules) l k)

-- for each of the first i rules the nodes that its right side matches
abbrev pub Rights : List Node → List Rule → ℕ → List ℕ → Type 0
Rights nodes rules i rights = (j q : ℕ) → j < i → listed rights j q ≡ (ltb q (length nodes) && matchb (want_of (get_or rules j no_rule).right (label_at nodes q)))
