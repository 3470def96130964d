use Rattle.std.proofs.Common.{[]}
use Rattle.std.proofs.lemmas.Result.{err_from_is_err_and}
use Rattle.tclcommands.proofs.global_names.global.Goals as goal

pub returns-in_err-share_in_procedure : goal.returns-in_err-share_in_procedure
returns-in_err-share_in_procedure c =
    let p = err_from_is_err_and c.from_residual.result c.from_residual.ensures.1 in
    rw (p.1, p.2) (λ most b r k x. c.in_err-share_in_procedure.ensures most r (k []) x)

pub returns : goal.returns
returns c = λ most b r k x. c.in_ok-share_in_procedure.ensures most r (k []) x
