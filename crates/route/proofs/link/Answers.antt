-- `route::link` meets its contract: an edge more, from the last down.
-- Assumes nothing.
use Rattle.std.proofs.Common.{rules, arith, ℕ, ◌≡◌, ◌+◌, length, get_or, refl, sym, ◌∙◌}
use lib.ListN.{get_or-replicate}
use Rattle.std.specs.Fn.{FnReturnsAt}
use Rattle.graph.specs.Graph.{no_edge}
use Rattle.graph.specs.Limits.{most_nodes, most_edges}
use Rattle.route.proofs.Backwards.{back_start, back_edge, back_more}
use Rattle.route.proofs.link.Goals as goal

pub loop-e-init : goal.loop-e-init
loop-e-init g c =
    let all : c.into_iter-e-iterator.result.iter.iter.rest.now ≡ c.args.edges.now = cc in
    let none : c.into_iter-e-iterator.result.iter.count ≡ 0 = cc in (
      search rules,
      search rules,
      none,
      rw all (back_start c.args.edges.now _ _ refl (λ v h. get_or-replicate {A = ℕ} (most_nodes + most_edges) v _ 0 (omega (arith, h)))),
    )

pub put-requires : goal.put-requires
put-requires g c =
    let s = c.in-Some.ensures.steps in let rest = c.next.new.self.iter.iter.rest.now in
    let here = back_edge c.args.edges.now _ c.loop-e.l.entries _ rest c.in-Some.edge.now s.1.0 c.loop-e.invariant.3 in
    let within = c.requires.within (length rest) c.at.result here.0 (record { shown = c.in-Some.edge; shows = sym here.1; says = record { met = c.at.ensures } }) in
    (omega (arith, s.1.1, c.loop-e.invariant.2, here), omega (arith, within, c.from.ensures))

pub loop-e-preserved : goal.loop-e-preserved
loop-e-preserved g c =
    let s = c.in-Some.ensures.steps in let rest = c.next.new.self.iter.iter.rest.now in
    let told : (x : ℕ) → c.in-Some.edge.now ≡ get_or c.args.edges.now x no_edge → FnReturnsAt g.F.Fn c.args.at (get_or c.args.edges.now x no_edge) c.from.result =
    λ x e. record { shown = c.in-Some.edge; shows = e; says = record { met = rw c.from.ensures c.at.ensures } } in
    let here = back_edge c.args.edges.now _ c.loop-e.l.entries _ rest c.in-Some.edge.now s.1.0 c.loop-e.invariant.3 in
    let is = told (length rest) (sym here.1) in
    let more = back_more c.args.edges.now _ c.loop-e.l.entries _ rest c.in-Some.edge.now s.1.0 c.loop-e.invariant.3 c.from.result c.requires.few
    (c.requires.within (length rest) _ here.0 is) is in
    let e : c.in-Some.e ≡ length rest = omega (arith, s.1.1, c.loop-e.invariant.2) in
    (search rules, search rules, s.0 ∙ c.loop-e.invariant.2, rw (c.put.ensures, e) more)
