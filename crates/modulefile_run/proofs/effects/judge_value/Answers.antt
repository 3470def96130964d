use Rattle.std.proofs.lemmas.Result.{err_from_is_err_and}
use Rattle.envvars.specs.Names.{name_reason}
use Rattle.envvars.specs.Reasons.{reason_of}
use Rattle.modulefile_run.proofs.RefusedEdits.{name_refused}
use Rattle.modulefile_run.proofs.effects.judge_value.Goals as goal

pub returns-in_err-judge_name : goal.returns-in_err-judge_name
returns-in_err-judge_name c =
    let p = err_from_is_err_and c.from_residual.result c.from_residual.ensures.1 in
    rw (p.1, p.2) (name_refused (reason_of c.in_err-judge_name.field-0.0) (name_reason c.args.var.now) _ c.in_err-judge_name.ensures)
