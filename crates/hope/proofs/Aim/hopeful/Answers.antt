-- `hope::Aim::hopeful` meets its contract: node by node; the rows only fall, and bound every way on.
use Rattle.std.proofs.Common.{ℕ, sym, ap, ◌∙◌}
use Rattle.sets.specs.Whole.{rows}
use Rattle.sets.proofs.Rows.{row_at}
use Rattle.sets.proofs.Leading.{all_out}
use Rattle.step.specs.Rest.{mark}
use Rattle.step.proofs.Rest.{rest_open}
use Rattle.hope.proofs.Reached.{settled_start, settled_on, settled_all}
use Rattle.hope.proofs.Aim.hopeful.Goals as goal

pub returns-then-has : goal.returns-then-has
returns-then-has c = λ e l (k, s, t). rest_open _ _ _ t (sym c.has.ensures ∙ c.if-has.true)

pub loop-round-init : goal.loop-round-init
loop-round-init c = settled_start _ _ _ _ _ c.none.ensures c.lower_on-left.ensures

pub returns-in_default : goal.returns-in_default
returns-in_default c =
    λ e. settled_all _ _ _ _ c.args.self.now.fits_goal c.loop-round.invariant
    (all_out _ _ c.none-in-loop-round.ensures c.in_default.ensures)
    (c.came_open.ensures c.if-came_open.false)

pub loop-round-preserved : goal.loop-round-preserved
loop-round-preserved c =
    let x = c.in-Some.x in let fits = rows c.args.self.now.fits.now in
    let marked = c.marked-m.ensures ∙ ap (λ (w : ℕ). mark fits w x) (sym (row_at c.loop-round.least x)) in
    let on = settled_on _ _ _ _ x marked c.lower_on-fell.ensures c.either-met.ensures in
    on c.take_out.ensures c.either-left.ensures c.loop-round.invariant
