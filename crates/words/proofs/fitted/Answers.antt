-- `words::fitted` meets its contract: by what the left side wants.
use Rattle.std.proofs.Common.{sym, ◌∙◌}
use Rattle.words.proofs.Parts.{fitted_never, fitted_same}
use Rattle.words.proofs.fitted.Goals as goal

pub returns-in-Var : goal.returns-in-Var
returns-in-Var c =
    let named = sym c.names.ensures ∙ c.if-names.true in
    fitted_same c.args.rule c.args.l c.args.right c.args.close c.wants.ensures c.in-Var.is named c.both.ensures

pub returns-in-Never : goal.returns-in-Never
returns-in-Never c = fitted_never c.args.rule c.args.l c.args.right c.args.close c.wants.ensures c.in-Never.is c.none.ensures
