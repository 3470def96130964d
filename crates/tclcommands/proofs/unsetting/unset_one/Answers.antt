use Rattle.std.proofs.Common.{◌≡◌, true, false, is_some, rules}
use Rattle.std.proofs.lemmas.Result.{err_from_is_err_and}
use Rattle.tclrules.proofs.Leading.{continue_with}
use Rattle.tclforms.proofs.substitution.Leading.{given_stops, given_on, reason_stops}
use Rattle.tclrules.specs.Variables.{value_at}
use Rattle.tclcommands.proofs.Insides.{unset_there, unset_absent}
use Rattle.tclforms.specs.variables.Locations.{scalar_view}
use Rattle.tclforms.specs.Views.{is_ignored}
use Rattle.tclcommands.proofs.unsetting.unset_one.Goals as goal

pub returns-in_err-variable : goal.returns-in_err-variable
returns-in_err-variable c =
    let p = err_from_is_err_and c.from_residual.result c.from_residual.ensures.1 in
    rw (p.1, p.2) (λ most r k x. given_stops _ _ _ _ c.in_err-variable.ensures)

pub returns-then-is_some : goal.returns-then-is_some
returns-then-is_some c =
    let p = scalar_view c.in_ok-variable.variable in
    let s = c.args.variables.now in
    let v : is_some (value_at s p) ≡ true = search rules in
    λ most r k x. rw (c.unset.ensures, ← unset_there (is_ignored c.args.missing) c.args.name.now s p k (value_at s p) v) (given_on _ _ _ _ c.in_ok-variable.ensures)

pub returns-in-Ignored : goal.returns-in-Ignored
returns-in-Ignored c =
    let p = scalar_view c.in_ok-variable.variable in
    let s = c.args.variables.now in
    let v : is_some (value_at s p) ≡ false = search rules in
    λ most r k x. rw (c.in-Ignored.is, ← (unset_absent c.args.name.now s p k (value_at s p) v).0) (given_on _ _ _ _ c.in_ok-variable.ensures)

pub returns-in-IsError : goal.returns-in-IsError
returns-in-IsError c =
    let p = scalar_view c.in_ok-variable.variable in
    let s = c.args.variables.now in
    let v : is_some (value_at s p) ≡ false = search rules in
    λ most r k x. rw (c.in-IsError.is, c.from.ensures)
    (continue_with (given_on _ _ _ _ c.in_ok-variable.ensures)
    (rw ((unset_absent c.args.name.now s p k (value_at s p) v).1) (reason_stops _ _ _ c.cannot_unset.ensures)))
