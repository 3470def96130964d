use Rattle.std.proofs.Common.{refl, ◌∙◌, None}
use Rattle.std.specs.Option.{option_map}
use Rattle.audit_certificate.specs.UseKeys.{key_view}
use Rattle.audit_certificate.specs.Conflicts.{has_name}
use Rattle.audit_certificate.proofs.TallyLemmas.{counted_is, others_left}
use Rattle.audit_certificate.proofs.tally.Tally.others.Goals as goal

pub returns : goal.returns
returns c = λ us have.
    let used = option_map key_view c.args.used in
    c.saturating_sub.ensures
    ∙ others_left c.args.variable.now used (has_name c.args.names.now) us c.count-all.result c.in_ok-excluded.field-0
    (counted_is c.args.self.now (record { variable = c.args.variable; used = c.args.used; root = None }) _ us c.count-all.result c.count-all.ensures have refl)
    (c.in_ok-excluded.ensures us have)
