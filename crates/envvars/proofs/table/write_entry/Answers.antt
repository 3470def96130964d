use Rattle.std.proofs.Common.{ap, ◌∙◌, Some}
use Rattle.std.specs.Prelude.{bytes_eq, if◌then◌else◌}
use Rattle.envvars.specs.Tables.{slot}
use Rattle.envvars.proofs.table.write_entry.Goals as goal

pub returns-clause-ok : goal.returns-clause-ok
returns-clause-ok c = λ x.
    c.in_ok-write_value.ensures.ok x ∙ ap (λ v. if bytes_eq x c.args.name.now then Some v else slot c.args.table.now x) c.in_ok-value.ensures
