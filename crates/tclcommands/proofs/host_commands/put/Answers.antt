use Rattle.std.proofs.lemmas.Result.{err_from_is_err_and}
use Rattle.tclrules.proofs.Leading.{starve}
use Rattle.tclcommands.proofs.host_commands.put.Goals as goal

pub returns-in_err-words : goal.returns-in_err-words
returns-in_err-words g c =
    let p = err_from_is_err_and c.from_residual.result c.from_residual.ensures.1 in
    rw (p.1, p.2) (λ most used scripts b r k. starve)

pub returns-in_err-ask_host : goal.returns-in_err-ask_host
returns-in_err-ask_host g c =
    let p = err_from_is_err_and c.from_residual-in_err-ask_host.result c.from_residual-in_err-ask_host.ensures.1 in
    let h = rw (c.deref.ensures.value, c.in_ok-words.ensures) at c.in_err-ask_host.ensures in
    rw (p.1, p.2) (λ most used scripts b r k. h most used scripts r k)

pub returns : goal.returns
returns g c =
    let h = rw (c.deref.ensures.value, c.in_ok-words.ensures) at c.in_ok-ask_host.ensures in
    λ most used scripts b r k. h most used scripts r k
