use Rattle.std.proofs.Common.{ap, ◌∙◌, Some, string_bytes}
use Rattle.std.specs.FinMap as finite
use Rattle.envvars.specs.Given.{variables_of}
use Rattle.envvars.proofs.EnvLemmas.{refused}
use Rattle.envvars.proofs.TableLemmas.{kept_over, entered_over}
use Rattle.envvars.proofs.env.Env.put.Goals as goal

pub returns-in_err-write_value-clause-err : goal.returns-in_err-write_value-clause-err
returns-in_err-write_value-clause-err c = refused c.from_residual.result _
    (kept_over (variables_of c.self.inside.given) c.self.inside.written c.write_value.new.table
    c.in_err-write_value.ensures.err ∙ c.self.view_is)

pub returns-clause-ok : goal.returns-clause-ok
returns-clause-ok c = entered_over (variables_of c.self.inside.given) c.self.inside.written c.write_value.new.table
    c.args.name.now (Some (string_bytes c.args.value)) c.in_ok-write_value.ensures.ok
    ∙ ap (λ e. finite.insert e c.args.name.now (string_bytes c.args.value)) c.self.view_is
