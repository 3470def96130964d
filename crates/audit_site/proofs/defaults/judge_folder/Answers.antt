use Rattle.std.proofs.Common.{string_bytes}
use Rattle.std.specs.Option.{option_map}
use Rattle.std.proofs.lemmas.Result.{err_from_is_err_and}
use Rattle.audit_site.proofs.defaults.judge_folder.Goals as goal

pub returns-clause-answer : goal.returns-clause-answer
returns-clause-answer g c = λ files listings agrees.
    (option_map string_bytes c.in_ok-found.found, c.in_ok-found.ensures.answer files listings agrees, c.in_ok-push_found.ensures)

pub returns-in_err-push_found-clause-failed : goal.returns-in_err-push_found-clause-failed
returns-in_err-push_found-clause-failed g c =
    let p = err_from_is_err_and c.from_residual-in_err-push_found.result c.from_residual-in_err-push_found.ensures.1 in
    rw (p.1, p.2) c.in_ok-found.ensures.failed

pub returns-clause-failed : goal.returns-clause-failed
returns-clause-failed g c = c.in_ok-found.ensures.failed
