use Rattle.std.proofs.lemmas.Result.{err_from_is_err_and}
use Rattle.tclrules.proofs.Leading.{continue_with}
use Rattle.tclforms.proofs.substitution.Leading.{given_stops, given_on}
use Rattle.tclcommands.proofs.lists.list_append.Goals as goal

pub append_elements-requires : goal.append_elements-requires
append_elements-requires c = (c.args.name.now, c.in_ok-variable.ensures)

pub returns-in_err-variable : goal.returns-in_err-variable
returns-in_err-variable c =
    let p = err_from_is_err_and c.from_residual.result c.from_residual.ensures.1 in
    rw (p.1, p.2) (λ most remaining r k x. given_stops _ _ _ _ c.in_err-variable.ensures)

pub returns-in_err-append_elements : goal.returns-in_err-append_elements
returns-in_err-append_elements c =
    let p = err_from_is_err_and c.from_residual-in_err-append_elements.result c.from_residual-in_err-append_elements.ensures.1 in
    rw (p.1, p.2) (λ most remaining r k x. continue_with (given_on _ _ _ _ c.in_ok-variable.ensures) (c.in_err-append_elements.ensures most remaining r k x))

pub returns : goal.returns
returns c = λ most remaining r k x. continue_with (given_on _ _ _ _ c.in_ok-variable.ensures) (c.in_ok-append_elements.ensures most remaining r k x)
