use Rattle.std.proofs.Common.{Bool, ap, ◌∙◌, rules}
use Rattle.std.proofs.lemmas.Result.{err_from_is_err_and}
use Rattle.tcltext.specs.chars.Runs.{Text}
use Rattle.tclrules.specs.Variables.{value_at}
use Rattle.tclrules.proofs.Leading.{continue_with}
use Rattle.tclforms.proofs.substitution.Leading.{given_stops, given_on}
use Rattle.tclforms.proofs.variables.Stores.{written}
use Rattle.tclforms.specs.variables.Locations.{scalar_view}
use Rattle.tclcommands.proofs.lists.rewrite_list.Goals as goal

pub lengthened-requires-text-list : goal.lengthened-requires-text-list
lengthened-requires-text-list c = search rules

pub returns-in_err-text : goal.returns-in_err-text
returns-in_err-text c =
    let p = err_from_is_err_and c.from_residual.result c.from_residual.ensures.1 in
    let h = rw c.value_or.ensures at c.in_err-text.ensures.text in
    rw (p.1, p.2) (λ most remaining r k x. given_stops _ _ _ _ h)

pub of_list-requires : goal.of_list-requires
of_list-requires c = c.in_ok-text.ensures.written

pub put_at-requires : goal.put_at-requires
put_at-requires c = search rules

pub returns-in_err-put_at : goal.returns-in_err-put_at
returns-in_err-put_at c =
    let q = err_from_is_err_and c.from_residual-in_err-put_at.result c.from_residual-in_err-put_at.ensures.1 in
    let h = rw c.value_or.ensures at c.in_ok-text.ensures.text in
    rw (q.1, q.2) (λ most remaining r k x. continue_with (given_on _ _ _ _ h) (rw (← c.of_list.ensures) (c.in_err-put_at.ensures.continues most remaining r k x)))

pub returns : goal.returns
returns c =
    let p : Bool × Text = scalar_view c.args.variable in
    let h = rw c.value_or.ensures at c.in_ok-text.ensures.text in
    let w = ap (λ s. value_at s p) c.in_ok-put_at.ensures.written ∙ written c.args.variables.now c.requires.0 p c.of_list.result c.requires.1 in
    λ most remaining r k x. rw w (continue_with (given_on _ _ _ _ h) (rw (← c.of_list.ensures) (c.in_ok-put_at.ensures.continues most remaining r k x)))
