use Rattle.std.proofs.lemmas.Result.{err_from_is_err_and}
use Rattle.tclcommands.proofs.reading.get.Goals as goal

pub returns-in_err-read : goal.returns-in_err-read
returns-in_err-read g c =
    let p = err_from_is_err_and c.from_residual.result c.from_residual.ensures.1 in
    rw (p.1, p.2) (λ most used scripts b r k. c.in_err-read.ensures most used scripts r k)

pub returns : goal.returns
returns g c = λ most used scripts b r k. c.in_ok-read.ensures most used scripts r k
