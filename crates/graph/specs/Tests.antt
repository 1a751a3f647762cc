-- The tests by which the code decides what fits. Nothing here has to be believed: `Ruled` in proofs/ shows that they say what `Fit` says.
-- Assumes nothing.
use Rattle.std.specs.Prelude.{Bool, true, false, List, eqb}
use Rattle.std.specs.List.{list_any}
use Rattle.graph.specs.declared.Label.{Label}
use Rattle.graph.specs.declared.Label.TheVariants.{Store, Load, Fence}
use Rattle.graph.specs.declared.Side.{Side}
use Rattle.graph.specs.declared.Side.TheVariants.{Any, Is}
use Rattle.graph.specs.declared.Rule.{Rule}
use Rattle.graph.specs.declared.Want.{Want}
use Rattle.graph.specs.declared.Want.TheVariants.{Never, Free, Var}

-- "its sides match them": what a side asks of the assignment, for this label
abbrev pub want_of : Side → Label → Want
want_of Any l = Free
want_of (Is (Store x)) (Store a) = Var x a
want_of (Is (Store x)) (Load a) = Never
want_of (Is (Store x)) Fence = Never
want_of (Is (Load x)) (Store a) = Never
want_of (Is (Load x)) (Load a) = Var x a
want_of (Is (Load x)) Fence = Never
want_of (Is Fence) (Store a) = Never
want_of (Is Fence) (Load a) = Never
want_of (Is Fence) Fence = Free

-- for "under one assignment": the second, if the first is so
abbrev pub if_same : Bool → Bool → Bool
if_same true b = b
if_same false b = true

-- "under one assignment": one variable has one address; "Variables 1 and 2 may have the same address."
abbrev pub agree : Want → Want → Bool
agree Never b = false
agree Free Never = false
agree Free Free = true
agree Free (Var y n) = true
agree (Var x m) Never = false
agree (Var x m) Free = true
agree (Var x m) (Var y n) = if_same (eqb x y) (eqb m n)

-- "A rule fits two labels", as a test
abbrev pub fit_of : Rule → Label → Label → Bool
fit_of r p q = agree (want_of r.left p) (want_of r.right q)

-- "some rule fits their labels", as a test
abbrev pub ruledb : List Rule → Label → Label → Bool
ruledb rules p q = list_any (λ r. fit_of r p q) rules
