use Rattle.std.proofs.Common.{sym, ◌∙◌, rules}
use Rattle.std.proofs.lemmas.Result.{err_from_is_err_and}
use Rattle.tclrules.proofs.Leading.{stay, starve}
use Rattle.tclforms.specs.variables.Locations.{scalar_view}
use Rattle.tclforms.proofs.substitution.Scalars.{array_raises, scalar_found}
use Rattle.tclforms.proofs.substitution.Leading.{reason_stops}
use Rattle.tclforms.proofs.substitution.reading.read_scalar.Goals as goal

pub from_str-requires-text-s : goal.from_str-requires-text-s
from_str-requires-text-s c = search rules

pub returns-then-is_env : goal.returns-then-is_env
returns-then-is_env c =
    let e = sym c.is_env.ensures ∙ c.if-is_env.true in
    (λ most r k x. rw (array_raises c.args.spelled.now (scalar_view c.args.variable) c.args.variables.now k e, c.from.ensures) (reason_stops _ _ _ c.is_array.ensures))

pub returns-in_err-from_str-in-Some : goal.returns-in_err-from_str-in-Some
returns-in_err-from_str-in-Some c =
    let p = err_from_is_err_and c.from_residual.result c.from_residual.ensures.1 in
    rw (p.1, p.2) (λ most r k x. starve)

pub returns-in_ok-from_str-in-Some : goal.returns-in_ok-from_str-in-Some
returns-in_ok-from_str-in-Some c =
    let e = sym c.is_env.ensures ∙ c.if-is_env.false in
    (λ most r k x. rw (scalar_found c.args.spelled.now (scalar_view c.args.variable) c.args.variables.now k e, ← c.in-Some.ensures, c.in_ok-from_str-in-Some.ensures.ok) stay)

pub returns-in-None : goal.returns-in-None
returns-in-None c =
    let e = sym c.is_env.ensures ∙ c.if-is_env.false in
    (λ most r k x. rw (scalar_found c.args.spelled.now (scalar_view c.args.variable) c.args.variables.now k e, ← c.in-None.ensures, c.from-in-None.ensures) (reason_stops _ _ _ c.no_variable.ensures))
