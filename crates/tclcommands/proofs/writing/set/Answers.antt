use Rattle.std.proofs.lemmas.Result.{err_from_is_err_and}
use Rattle.tclrules.proofs.Leading.{starve}
use Rattle.tclcommands.proofs.writing.set.Goals as goal

pub returns-in_err-copy : goal.returns-in_err-copy
returns-in_err-copy c =
    let p = err_from_is_err_and c.from_residual.result c.from_residual.ensures.1 in
    rw (p.1, p.2) (λ most remaining r k x. starve)

pub returns-in_err-write : goal.returns-in_err-write
returns-in_err-write c =
    let p = err_from_is_err_and c.from_residual-in_err-write.result c.from_residual-in_err-write.ensures.1 in
    let h = rw c.in_ok-copy.ensures.ok at c.in_err-write.ensures in
    rw (p.1, p.2) h

pub returns : goal.returns
returns c = rw c.in_ok-copy.ensures.ok at c.in_ok-write.ensures
