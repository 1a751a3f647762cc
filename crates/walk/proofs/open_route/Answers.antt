-- `walk::open_route` meets its contract: the walk from the order's first node.
use Rattle.std.proofs.Common.{ℕ, refl, sym, ap, ◌∙◌}
use Rattle.flags.specs.Flag.{put}
use Rattle.sets.proofs.Rows.{row_at}
use Rattle.walk.proofs.First.{none_shown, one_shown}
use Rattle.walk.proofs.open_route.Goals as goal

pub returns-then-not-hopeful : goal.returns-then-not-hopeful
returns-then-not-hopeful c =
    let alone = c.with.ensures.0 ∙ ap (λ (w : ℕ). put w c.args.a) c.none.ensures in
    let held = none_shown alone (sym (row_at c.args.fits.now c.args.a)) (c.hopeful.ensures c.if-not-hopeful.true) in
    record { asked = held.0; by_tables = held.1; some_nodes = tt }

pub returns-then-not-trial : goal.returns-then-not-trial
returns-then-not-trial c =
    let alone = c.with.ensures.0 ∙ ap (λ (w : ℕ). put w c.args.a) c.none.ensures in
    let held = none_shown alone (sym (row_at c.args.fits.now c.args.a)) (c.trial.ensures.none c.if-not-trial.true) in
    record { asked = held.0; by_tables = held.1; some_nodes = tt }

pub returns : goal.returns
returns c =
    let alone = c.with.ensures.0 ∙ ap (λ (w : ℕ). put w c.args.a) c.none.ensures in
    let found = one_shown alone (sym (row_at c.args.fits.now c.args.a)) refl c.trial.ensures c.if-not-trial.false in
    rw (c.truncate.ensures, c.from-route.ensures, c.size.ensures.0) (record { asked = found.0; by_tables = found.1; some_nodes = (found.2, found.3) })
