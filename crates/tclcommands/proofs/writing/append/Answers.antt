use Rattle.std.proofs.Common.{string_bytes, ap, ◌∙◌, rules}
use Rattle.std.proofs.lemmas.Result.{err_from_is_err_and}
use Rattle.tclrules.specs.Variables.{value_at}
use Rattle.tclrules.proofs.Leading.{continue_with}
use Rattle.tclforms.proofs.substitution.Leading.{given_stops, given_on}
use Rattle.tclforms.proofs.variables.Stores.{written}
use Rattle.tclcommands.proofs.Limits.{limited_is, limited_stops}
use Rattle.tclforms.specs.variables.Locations.{scalar_view}
use Rattle.tclcommands.proofs.writing.append.Goals as goal

pub write_at-requires : goal.write_at-requires
write_at-requires c = search rules

pub returns-in_err-variable : goal.returns-in_err-variable
returns-in_err-variable c =
    let p = err_from_is_err_and c.from_residual.result c.from_residual.ensures.1 in
    rw (p.1, p.2) (λ most remaining r k x. given_stops _ _ _ _ c.in_err-variable.ensures)

pub returns-in_err-value : goal.returns-in_err-value
returns-in_err-value c =
    let p = err_from_is_err_and c.from_residual-in_err-value.result c.from_residual-in_err-value.ensures.1 in
    let h = rw c.take_text-old.ensures.value at c.in_err-value.ensures in
    rw (p.1, p.2) (λ most remaining r k x. continue_with (given_on _ _ _ _ c.in_ok-variable.ensures) (limited_stops _ _ _ _ _ h))

pub returns-in_err-write_at : goal.returns-in_err-write_at
returns-in_err-write_at c =
    let p = err_from_is_err_and c.from_residual-in_err-write_at.result c.from_residual-in_err-write_at.ensures.1 in
    let t = limited_is _ _ _ (rw c.take_text-old.ensures.value at c.in_ok-value.ensures) in
    let g = c.take_text-old.ensures.given_back (string_bytes c.in_ok-value.value) in
    rw (p.1, p.2) (λ most remaining r k x. continue_with (given_on _ _ _ _ c.in_ok-variable.ensures) (rw (t, ← g) (c.in_err-write_at.ensures.continues most remaining r k x)))

pub returns : goal.returns
returns c =
    let t = limited_is _ _ _ (rw c.take_text-old.ensures.value at c.in_ok-value.ensures) in
    let p = scalar_view c.in_ok-variable.variable in
    let u = string_bytes c.in_ok-value.value in
    let g = c.take_text-old.ensures.given_back u in
    let w = ap (λ s. value_at s p) (c.in_ok-write_at.ensures.written ∙ g) ∙ written c.args.variables.now c.args.name.now p u c.in_ok-variable.ensures in
    λ most remaining r k x. rw w (continue_with (given_on _ _ _ _ c.in_ok-variable.ensures) (rw (t, ← g) (c.in_ok-write_at.ensures.continues most remaining r k x)))
