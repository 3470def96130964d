use Rattle.std.proofs.Common.{rules, tests, string_bytes, bytes_eq}
use Rattle.std.proofs.lemmas.Iterator.Search.{any_from_yields_List}
use Rattle.std.proofs.lemmas.Iterator.{YieldsList-from_slice}
use Rattle.audit_certificate.specs.declared.uses.UsedVariable.{UsedVariable}
use Rattle.modaudit.proofs.command.not_utf8.is_used.Goals as goal

pub returns : goal.returns
returns c =
    any_from_yields_List (λ (u : UsedVariable). bytes_eq (string_bytes u.variable) c.args.name.now) _ _ c.any.result
    c.any.ensures.ran (YieldsList-from_slice c.args.certificate.now cc) (λ x b q k. search (rules, tests))
