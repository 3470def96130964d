use Rattle.std.proofs.lemmas.Result.{err_from_is_err_and}
use Rattle.tcltext.specs.expr.Owned.{owned_view}
use Rattle.tcleval.proofs.Conditions.{held_found}
use Rattle.tcleval.proofs.evaluator.Evaluator.comparison.Goals as goal

pub returns-in_err-made-clause-err : goal.returns-in_err-made-clause-err
returns-in_err-made-clause-err c =
    let p = err_from_is_err_and c.from_residual.result c.from_residual.ensures.1 in
    let h = rw c.as_str.ensures.value at c.in_err-made.ensures.err in
    rw (p.1, p.2) (λ most remaining r k x. h most remaining r _ x)

pub returns-in-Some-clause-found : goal.returns-in-Some-clause-found
returns-in-Some-clause-found c =
    let m = rw (c.as_str.ensures.value, c.in-Some.is) at c.in_ok-made.ensures.some in
    held_found _ c.in-Some.made c.args.limits.value_bytes (owned_view c.args.tree.now) c.args.self.now.variables c.truth_of.ensures m
