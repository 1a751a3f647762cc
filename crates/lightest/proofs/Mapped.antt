-- The weight of an edge and the ends of a pair by their numbers: those of the list's own edge and pair.
-- Assumes nothing.
use mathlib.Core.List.{List}
use mathlib.Core.Path.{◌≡◌, sym, ◌∙◌}
use Prim.Native.Nat.{ℕ, ◌≤◌}
use native.Mathlib.Omega.{arith}
use lib.ListN.{length, get_or, get_or-map}
use Rattle.std.proofs.lemmas.List.{length-map}
use Rattle.graph.specs.Graph.{no_edge, no_order}
use Rattle.graph.specs.declared.Edge.{Edge}
use Rattle.graph.specs.declared.Order.{Order}
use Rattle.graph.specs.Limits.{most_edges}
use Rattle.route.specs.Way.{weights}
use Rattle.lightest.specs.declared.Problem.{Problem}
use Rattle.lightest.specs.Apart.{firsts, seconds}
use Rattle.lightest.specs.Search.{costs}

pub weights_long : (es : List Edge) → length (weights es) ≡ length es
weights_long es = length-map es (λ (e : Edge). e.weight)

pub weight_at : (es : List Edge) (i : ℕ) → get_or (weights es) i 0 ≡ (get_or es i no_edge).weight
weight_at es i = get_or-map (λ (e : Edge). e.weight) es i no_edge

pub firsts_long : (ps : List Order) → length (firsts ps) ≡ length ps
firsts_long ps = length-map ps (λ (o : Order). o.first)

pub first_at : (ps : List Order) (i : ℕ) → get_or (firsts ps) i 0 ≡ (get_or ps i no_order).first
first_at ps i = get_or-map (λ (o : Order). o.first) ps i no_order

pub second_at : (ps : List Order) (i : ℕ) → get_or (seconds ps) i 0 ≡ (get_or ps i no_order).second
second_at ps i = get_or-map (λ (o : Order). o.second) ps i no_order

-- and of a problem's
pub costs_few : (p : Problem) → length (costs p) ≤ most_edges
costs_few p = omega (arith, p.posed.net.few, p.posed.weights)

pub cost_at : (p : Problem) (e : ℕ) {w : ℕ} → w ≡ (get_or p.net.edges.now e no_edge).weight → w ≡ get_or (costs p) e 0
cost_at p e q = q ∙ sym (weight_at p.net.edges.now e)
