-- `hope::into_set` meets its contract: node by node.
use Rattle.std.proofs.Common.{arith, ◌≡◌, ℕ, Bool, [], ◌∙◌}
use Rattle.std.proofs.lemmas.List.{get_or-take, length-take-le}
use Rattle.sets.specs.Whole.{whole, rows}
use Rattle.sets.proofs.Rows.{row_at}
use Rattle.words.specs.Words.{listed}
use Rattle.words.proofs.Fill.{gathered_none, gathered_put, gathered_skip}
use Rattle.hope.proofs.Hope.{gathered_into}
use Rattle.hope.proofs.into_set.Goals as goal
use Rattle.hope.proofs.into_set.Goals.{then-has, else-has}

pub loop-p-init : goal.loop-p-init
loop-p-init c = rw c.none-into.ensures (gathered_none _)

pub loop-p-preserved : goal.loop-p-preserved
loop-p-preserved c =
    let p = c.loop-p.p in let n = c.args.n in let fits = c.args.fits.now in let goal = c.args.goal in
    let F : ℕ → Bool = λ k. listed (rows fits) k goal in
    let row : F p ≡ c.has.result =
    let at = row_at fits p in
    let kept = get_or-take n fits p [] (omega (arith, c.loop-p-test.true, length-take-le n fits (omega (arith, c.requires, c.told-fits)))) in
    cc in
    elim c.if-has.branch [
      | then-has w ↦ rw (w.into-is, w.put_in.ensures.0) (gathered_put F p (whole c.loop-p.into) c.loop-p.invariant (row ∙ w.if-has.true))
      | else-has w ↦ rw w.into-is (gathered_skip F p (whole c.loop-p.into) c.loop-p.invariant (row ∙ w.if-has.false))
    ]

pub returns : goal.returns
returns c =
    let all : c.loop-p.p ≡ c.args.n =
    omega (arith, c.loop-p.auto.p-end, c.loop-p-test.false, length-take-le c.args.n c.args.fits.now (omega (arith, c.requires, c.told-fits))) in
    gathered_into (rows c.args.fits.now) c.args.goal c.args.n (whole c.loop-p.into) (rw all at c.loop-p.invariant)
