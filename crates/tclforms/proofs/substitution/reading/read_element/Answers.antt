use Rattle.std.proofs.lemmas.Result.{err_from_is_err_and}
use Rattle.tclrules.proofs.Leading.{continue_with, starve}
use Rattle.tclforms.proofs.substitution.Leading.{given_stops, given_on}
use Rattle.tclforms.proofs.substitution.reading.read_element.Goals as goal

pub returns-in_err-location : goal.returns-in_err-location
returns-in_err-location g c =
    let p = err_from_is_err_and c.from_residual.result c.from_residual.ensures.1 in
    rw (p.1, p.2) (λ most used scripts r k. given_stops _ _ _ _ c.in_err-location.ensures)

pub returns-in_err-spelled : goal.returns-in_err-spelled
returns-in_err-spelled g c =
    let p = err_from_is_err_and c.from_residual-in_err-spelled.result c.from_residual-in_err-spelled.ensures.1 in
    rw (p.1, p.2) (λ most used scripts r k. starve)

pub returns : goal.returns
returns g c =
    let h = rw (c.as_str.ensures.value, c.in_ok-spelled.ensures) at c.read_location.ensures in
    (λ most used scripts r k. continue_with (given_on _ _ _ _ c.in_ok-location.ensures) (h most used scripts r k))
