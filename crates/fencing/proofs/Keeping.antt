-- Rules and orders that are unchanged stay so.
-- Assumes nothing.
use mathlib.Core.Path.{◌∙◌, refl}
use Rattle.fencing.specs.Kept.{Kept}
use Rattle.graph.specs.declared.Graph.{Graph}

pub kept_same : {g : Graph} → Kept g g
kept_same = record { rules = refl; orders = refl }

pub kept_then : {g h k : Graph} → Kept g h → Kept h k → Kept g k
kept_then a b = record { rules = b.rules ∙ a.rules; orders = b.orders ∙ a.orders }
