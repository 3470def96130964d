use Rattle.std.proofs.Common.{◌≤◌, ◌<◌, length, string_bytes, arith}
use Rattle.tclforms.proofs.substitution.Leading.{sized_on, sized_stops}
use Rattle.tcleval.proofs.evaluator.sized.Goals as goal

pub returns-then-len-limits-clause-within : goal.returns-then-len-limits-clause-within
returns-then-len-limits-clause-within c = tt

pub returns-then-len-limits-clause-evaluates_to : goal.returns-then-len-limits-clause-evaluates_to
returns-then-len-limits-clause-evaluates_to c =
    let h : c.args.limits.value_bytes < length (string_bytes c.args.text) = omega (arith, c.len.ensures, c.if-len-limits.true) in
    λ most r k s x. sized_stops _ _ _ h

pub returns-clause-within : goal.returns-clause-within
returns-clause-within c = omega (arith, c.len.ensures, c.if-len-limits.false)

pub returns-clause-evaluates_to : goal.returns-clause-evaluates_to
returns-clause-evaluates_to c =
    let h : length (string_bytes c.args.text) ≤ c.args.limits.value_bytes = omega (arith, c.len.ensures, c.if-len-limits.false) in
    λ most r k s x. sized_on _ _ _ h
