use Rattle.std.proofs.lemmas.Result.{err_from_is_err_and}
use Rattle.tclrules.proofs.Leading.{continue_with}
use Rattle.tclforms.proofs.substitution.Leading.{given_stops, given_on}
use Rattle.tclcommands.proofs.writing.write.Goals as goal

pub returns-in_err-variable : goal.returns-in_err-variable
returns-in_err-variable c =
    let p = err_from_is_err_and c.from_residual.result c.from_residual.ensures.1 in
    rw (p.1, p.2) (λ most remaining r k x. given_stops _ _ _ _ c.in_err-variable.ensures)

pub returns : goal.returns
returns c = λ most remaining r k x. continue_with (given_on _ _ _ _ c.in_ok-variable.ensures) (c.write_at.ensures.continues most remaining r k x)
