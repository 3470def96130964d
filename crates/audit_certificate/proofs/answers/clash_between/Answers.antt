use Rattle.std.proofs.Common.{Some, None}
use Rattle.std.specs.Prelude.{string_bytes}
use Rattle.audit_certificate.specs.Users.{uses_of_modules}
use Rattle.audit_certificate.specs.UseViews.{use_view}
use Rattle.audit_certificate.proofs.TallyLemmas.{counted_is, alike_counted}
use Rattle.audit_certificate.proofs.answers.clash_between.Goals as goal

pub returns-clause-alike : goal.returns-clause-alike
returns-clause-alike c = λ ms have.
    alike_counted (string_bytes c.in_ok-variable.variable) (use_view c.in_ok-theirs.theirs) (uses_of_modules ms) c.count-alike.result
    (counted_is c.args.tally.now (record { variable = c.as_str-2.result; used = Some c.key_of.result; root = None }) _ (uses_of_modules ms) c.count-alike.result
    c.count-alike.ensures have
    (λ i. record { variable = c.as_str-2.ensures.value i; used = Some (c.key_of.ensures i); root = None }))
