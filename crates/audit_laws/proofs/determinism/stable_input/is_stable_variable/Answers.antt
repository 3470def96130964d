use Rattle.std.proofs.Common.{rules, ◌≡◌, Bool, not, ◌&&◌, subst}
use Rattle.envvars.specs.Names.{is_protected}
use Rattle.envvars.specs.Texts.{has}
use Rattle.modulefile.specs.Records.{variable_of}
use Rattle.modulefile.specs.RecordViews.{record_view}
use Rattle.audit_laws.specs.determinism.StableInput.{is_variable, shell_variables}
use Rattle.audit_laws.proofs.determinism.Seen.{any_seen}
use Rattle.audit_laws.proofs.determinism.stable_input.is_stable_variable.Goals as goal

pub returns-then-not-is_of_shells : goal.returns-then-not-is_of_shells
returns-then-not-is_of_shells c =
    let v = c.args.variable.now in
    subst (λ (b : Bool). not c.is_named.result ≡ (not (is_protected v) && (not (has v shell_variables) && not b)))
    (any_seen (λ r. is_variable v (variable_of r)) record_view c.args.records.now) (search rules)
