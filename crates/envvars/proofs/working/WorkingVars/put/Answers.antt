use Rattle.std.proofs.Common.{ap, ◌∙◌, Some, string_bytes}
use Rattle.std.specs.FinMap as finite
use Rattle.envvars.specs.Edited.{Edited}
use Rattle.envvars.proofs.EnvLemmas.{refused}
use Rattle.envvars.proofs.TableLemmas.{kept_over, entered_over}
use Rattle.envvars.proofs.working.WorkingVars.put.Goals as goal

pub returns-in_err-write_value-clause-err : goal.returns-in_err-write_value-clause-err
returns-in_err-write_value-clause-err g c = refused c.from_residual.result _
    (kept_over (g.B.Vars.vars c.self.inside.old.now) c.self.inside.touched c.write_value.new.table
    c.in_err-write_value.ensures.err ∙ ap (λ (e : Edited). e.new) c.self.view_is)

pub returns-clause-ok : goal.returns-clause-ok
returns-clause-ok g c =
    entered_over (g.B.Vars.vars c.self.inside.old.now) c.self.inside.touched c.write_value.new.table c.args.name.now (Some (string_bytes c.args.value)) c.in_ok-write_value.ensures.ok
    ∙ ap (λ (e : Edited). finite.insert e.new c.args.name.now (string_bytes c.args.value)) c.self.view_is
