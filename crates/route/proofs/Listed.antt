-- Where an edge of a list starts and ends, by its number.
-- Assumes nothing.
use mathlib.Core.List.{List}
use mathlib.Core.Path.{◌≡◌}
use Prim.Native.Nat.{ℕ, ◌<◌}
use native.Mathlib.Omega.{arith}
use lib.ListN.{length, get_or, get_or-map}
use Rattle.std.proofs.lemmas.List.{length-map}
use Rattle.graph.specs.declared.Edge.{Edge}
use Rattle.graph.specs.Graph.{no_edge}
use Rattle.graph.specs.Limits.{most_nodes}
use Rattle.route.specs.Way.{Net, starts, ends}

pub start_of : (es : List Edge) (e : ℕ) → get_or (starts es) e 0 ≡ (get_or es e no_edge).from
start_of es e = get_or-map (λ (x : Edge). x.from) es e no_edge

pub end_of : (es : List Edge) (e : ℕ) → get_or (ends es) e 0 ≡ (get_or es e no_edge).to
end_of es e = get_or-map (λ (x : Edge). x.to) es e no_edge

pub starts_all : (es : List Edge) → length (starts es) ≡ length es
starts_all es = length-map es (λ (x : Edge). x.from)

pub ends_all : (es : List Edge) → length (ends es) ≡ length es
ends_all es = length-map es (λ (x : Edge). x.to)

pub start_within : (es : List Edge) (e : ℕ) → Net (starts es) (ends es) → e < length es → (get_or es e no_edge).from < most_nodes
start_within es e net h = omega (arith, net.tail e (omega (arith, h, starts_all es)), start_of es e)

pub end_within : (es : List Edge) (e : ℕ) → Net (starts es) (ends es) → e < length es → (get_or es e no_edge).to < most_nodes
end_within es e net h = omega (arith, net.head e (omega (arith, h, starts_all es)), end_of es e)
