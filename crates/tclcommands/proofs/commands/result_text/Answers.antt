use Rattle.std.proofs.Common.{◌<◌, ◌≤◌, [], length, arith}
use Rattle.std.proofs.lemmas.Bool.Decides.{nat_tests}
use Rattle.tclcommands.specs.Continuations.{value_text}
use Rattle.tclforms.proofs.substitution.Leading.{sized_on, sized_stops}
use Rattle.std.proofs.lemmas.Result.{err_from_is_err_and}
use Rattle.tclrules.proofs.Leading.{starve}
use Rattle.tclcommands.proofs.commands.result_text.Goals as goal

pub returns-then-not-is_within : goal.returns-then-not-is_within
returns-then-not-is_within c =
    let h : c.args.limits.value_bytes < length (value_text c.args.value c.args.variables.now) = grind (arith, nat_tests, c.is_within.ensures, c.if-not-is_within.true) in
    ([], tt, λ most r k x. sized_stops _ _ _ h)

pub returns-in_err-into_text-in-Needed : goal.returns-in_err-into_text-in-Needed
returns-in_err-into_text-in-Needed c =
    let p = err_from_is_err_and c.from_residual.result c.from_residual.ensures.1 in
    rw (p.1, p.2) ([], tt, λ most r k x. starve)

pub returns-in_ok-into_text-in-Needed : goal.returns-in_ok-into_text-in-Needed
returns-in_ok-into_text-in-Needed c =
    let h : length (value_text c.args.value c.args.variables.now) ≤ c.args.limits.value_bytes = grind (arith, nat_tests, c.is_within.ensures, c.if-not-is_within.false) in
    (value_text c.args.value c.args.variables.now, (h, λ e. c.in_ok-into_text-in-Needed.ensures), λ most r k x. sized_on _ _ _ h)

pub returns-in-Dropped : goal.returns-in-Dropped
returns-in-Dropped c =
    let h : length (value_text c.args.value c.args.variables.now) ≤ c.args.limits.value_bytes = grind (arith, nat_tests, c.is_within.ensures, c.if-not-is_within.false) in
    (value_text c.args.value c.args.variables.now, (h, λ e. absurd (let q = c.in-Dropped.is in cc)), λ most r k x. sized_on _ _ _ h)
