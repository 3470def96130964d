use Rattle.std.proofs.Common.{rules}
use Rattle.std.proofs.lemmas.Result.{err_from_is_err_and}
use Rattle.tclcommands.proofs.host_commands.consult.Goals as goal

pub ask_host-requires-text-name : goal.ask_host-requires-text-name
ask_host-requires-text-name g c = search rules

pub returns-in_err-ask_host : goal.returns-in_err-ask_host
returns-in_err-ask_host g c =
    let p = err_from_is_err_and c.from_residual.result c.from_residual.ensures.1 in
    let h = rw c.command_name.ensures at c.in_err-ask_host.ensures in
    rw (p.1, p.2) (λ most used scripts b r k. h most used scripts r k)

pub returns : goal.returns
returns g c =
    let h = rw c.command_name.ensures at c.in_ok-ask_host.ensures in
    λ most used scripts b r k. h most used scripts r k
