use Rattle.std.proofs.Common.{refl, ◌∙◌, ◌-◌, Some, None}
use Rattle.reversal.specs.VariableUses.{Untouched}
use Rattle.audit_certificate.specs.declared.keys.UseKey.TheVariants as keys
use Rattle.audit_certificate.proofs.TallyLemmas.{counted_is}
use Rattle.audit_certificate.proofs.tally.Tally.beside_readers.Goals as goal

pub returns : goal.returns
returns c = λ us have.
    c.saturating_sub.ensures
    ∙ (λ i. counted_is c.args.self.now (record { variable = c.args.variable; used = None; root = None }) (record { variable = c.args.variable.now; used = None; root = None }) us c.count-all.result c.count-all.ensures have refl i
    - counted_is c.args.self.now (record { variable = c.args.variable; used = Some keys.Read; root = None }) (record { variable = c.args.variable.now; used = Some Untouched; root = None }) us c.count-readers.result c.count-readers.ensures have refl i)
