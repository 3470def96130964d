use Rattle.std.proofs.Common.{[]}
use Rattle.std.proofs.lemmas.Result.{err_from_is_err_and}
use Rattle.tclcommands.proofs.unsetting.unset.Goals as goal

pub returns-in_err-unset_each : goal.returns-in_err-unset_each
returns-in_err-unset_each c =
    let p = err_from_is_err_and c.from_residual.result c.from_residual.ensures.1 in
    rw (p.1, p.2) (λ most b r k x. c.in_err-unset_each.ensures most r (k []) x)

pub returns : goal.returns
returns c = λ most b r k x. c.in_ok-unset_each.ensures most r (k []) x
