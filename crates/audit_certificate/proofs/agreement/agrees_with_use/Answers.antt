use Rattle.std.proofs.Common.{rules, tests, string_bytes}
use Rattle.envvars.specs.Texts.{slice_texts}
use Rattle.audit_certificate.specs.UseViews.{use_view}
use Rattle.audit_certificate.proofs.LoadedOwners.{owners_spelled, agrees_stack}
use Rattle.audit_certificate.proofs.agreement.agrees_with_use.Goals as goal

pub is_stack_in_order-requires : goal.is_stack_in_order-requires
is_stack_in_order-requires c = owners_spelled c.args.env.now (slice_texts c.as_slice.result.now) (search (rules, tests))

pub returns-in-Some : goal.returns-in-Some
returns-in-Some c =
    agrees_stack c.is_stack_in_order.result c.args.env.now (string_bytes c.args.wanted.now.variable)
    c.as_str-variable.result.now (use_view c.args.wanted.now.used) (slice_texts c.as_slice.result.now)
    (search (rules, tests)) (search (rules)) c.as_str-variable.ensures.value
    c.is_stack_in_order.ensures
