-- `walked::edge_between` meets its contract: what the closure finds is an edge from p to q, and it passes over none.
-- Assumes nothing.
use Rattle.std.proofs.Common.{rules, tests, arith, ℕ, ◌≡◌, length, get_or, sym, ◌∙◌}
use Rattle.std.proofs.lemmas.Grind.{common_steps}
use Rattle.route.specs.Way.{starts, ends, Remains}
use Rattle.route.proofs.Along.{callable_over, first_from_find, passing_start}
use Rattle.route.proofs.Listed.{starts_all, end_of}
use Rattle.walked.proofs.Edges.{between_found}
use Rattle.walked.proofs.edge_between.Goals as goal

pub find-requires-clause-callable : goal.find-requires-clause-callable
find-requires-clause-callable c = callable_over c.args.outs.now (length c.args.edges.now) _ _ _ (λ x q k. search rules) c.at.result (λ x h. search rules) (c.at.ensures.0, c.at.ensures.1)

pub returns : goal.returns
returns c =
    let from = starts c.args.edges.now in let to = ends c.args.edges.now in let left = c.args.left.now in
    let Ok : ℕ → Type 0 = λ x. Remains left x × (get_or to x 0 ≡ c.args.q) in
    let at = c.at.ensures in
    between_found from to left c.args.p c.args.q _
    (first_from_find from Ok c.args.p c.args.outs.now c.requires.1 c.find.new.self _ _ c.find.ensures.ran
    (λ x q k. (search (rules, tests), end_of c.args.edges.now x ∙ search (rules, tests)))
    (λ x q k. (search rules, λ o. grind (arith, common_steps, end_of c.args.edges.now x, o, k)))
    ((at.0, at.1 ∙ sym (starts_all c.args.edges.now)), passing_start from Ok c.args.p c.args.outs.now c.requires.1 _ c.requires.2 at.2))
