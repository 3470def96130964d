use Rattle.std.proofs.lemmas.Result.{err_from_is_err_and}
use Rattle.modulefile_run.proofs.journal.add_entry.Goals as goal

pub returns-in_err-make_effect-clause-edits : goal.returns-in_err-make_effect-clause-edits
returns-in_err-make_effect-clause-edits g c =
    let p = err_from_is_err_and c.from_residual-in_err-make_effect.result c.from_residual-in_err-make_effect.ensures.1 in
    rw (p.1, p.2) c.in_err-make_effect.ensures.edits

pub returns-clause-edits : goal.returns-clause-edits
returns-clause-edits g c = c.in_ok-make_effect.ensures.edits
