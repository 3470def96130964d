use Rattle.std.proofs.Common.{ap, ◌∙◌, Some}
use Rattle.std.specs.FinMap as finite
use Rattle.envvars.specs.Edited.{Edited}
use Rattle.envvars.proofs.EnvLemmas.{refused}
use Rattle.envvars.proofs.TableLemmas.{kept_over, entered_over}
use Rattle.envvars.proofs.working.WorkingVars.set.Goals as goal

pub returns-in_err-write_entry-clause-err : goal.returns-in_err-write_entry-clause-err
returns-in_err-write_entry-clause-err g c = refused c.from_residual.result _
    (kept_over (g.B.Vars.vars c.self.inside.old.now) c.self.inside.touched c.write_entry.new.table
    c.in_err-write_entry.ensures.err ∙ ap (λ (e : Edited). e.new) c.self.view_is)

pub returns-clause-ok : goal.returns-clause-ok
returns-clause-ok g c =
    entered_over (g.B.Vars.vars c.self.inside.old.now) c.self.inside.touched c.write_entry.new.table c.args.name.now (Some c.args.value.now) c.in_ok-write_entry.ensures.ok
    ∙ ap (λ (e : Edited). finite.insert e.new c.args.name.now c.args.value.now) c.self.view_is
