-- `judge::judged` meets its contract: edge by edge, as long as each goes on from where the one before led to, to a new node.
-- Assumes nothing.
use Rattle.std.proofs.Common.{arith, ℕ, ◌≡◌, length, get_or, sym, ap, ◌∙◌}
use borrow.Author.Tests.{not-true}
use Rattle.flags.specs.Flag.{put}
use Rattle.graph.specs.Graph.{no_edge}
use Rattle.sets.specs.Whole.{rows}
use Rattle.sets.proofs.Rows.{row_at}
use Rattle.route.specs.Way.{starts, ends}
use Rattle.route.proofs.Listed.{start_of, end_of, starts_all}
use Rattle.judge.proofs.Tested.{tested_start, tested_on, tested_end}
use Rattle.judge.proofs.judged.Goals as goal

pub loop-e-init : goal.loop-e-init
loop-e-init c =
    let started = c.with-seen.ensures.0 ∙ ap (λ (w : ℕ). put w c.args.a) c.none.ensures in
    rw (started, ← (row_at c.args.fits.now c.args.a)) (tested_start (starts c.args.edges.now) (ends c.args.edges.now) (rows c.args.fits.now) c.args.route.now c.args.a)

pub loop-e-preserved : goal.loop-e-preserved
loop-e-preserved c =
    let es = c.args.edges.now in let e = get_or c.args.route.now c.loop-e.e-index 0 in
    let is = sym c.from.ensures in
    let goes_on : c.from-in-loop-e.result ≡ c.loop-e.at = omega (arith, c.if-from-at.false) in
    let at = start_of es e ∙ ap (λ (x : ℕ). (get_or es x no_edge).from) is ∙ sym c.from-in-loop-e.ensures ∙ goes_on in
    let on = end_of es e ∙ ap (λ (x : ℕ). (get_or es x no_edge).to) is ∙ sym c.from-at.ensures in
    let known = c.requires.edges_known.2 c.loop-e.e-index c.loop-e-test.true in
    let tested = tested_on (starts es) (ends es) (rows c.args.fits.now) c.args.route.now c.args.a c.loop-e.invariant c.loop-e-test.true
    (omega (arith, known, starts_all es)) at on (sym c.has.ensures ∙ c.if-has.false) in
    rw (c.put_in.ensures.0, c.mark_on.ensures) tested

pub returns-then-at-goal : goal.returns-then-at-goal
returns-then-at-goal c z =
    let all : c.loop-e.e-index ≡ length c.args.route.now = omega arith in
    let there : c.loop-e.at ≡ c.args.goal = omega (arith, c.if-at-goal.true) in
    let tested = rw (all, there) at c.loop-e.invariant in
    tested_end (starts c.args.edges.now) (ends c.args.edges.now) (rows c.args.fits.now) c.args.route.now c.args.a tested c.requires.edges_known.0
    c.requires.edges_known.1 (sym c.has-then-at-goal.ensures ∙ not-true _ z)
