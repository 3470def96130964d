use Rattle.std.proofs.lemmas.Result.{err_from_is_err_and}
use Rattle.module_words.specs.function.Forgotten.{forgotten_view}
use Rattle.module_commands.proofs.forgetting.forget_modules.Goals as goal

pub returns-in_err-forgotten-clause-refused : goal.returns-in_err-forgotten-clause-refused
returns-in_err-forgotten-clause-refused g c =
    let p = err_from_is_err_and c.from_residual-in_err-forgotten.result c.from_residual-in_err-forgotten.ensures.1 in
    rw (p.1, p.2) (forgotten_view c.in_ok-asked.asked, rw c.as_slice.ensures.value at c.in_ok-asked.ensures, c.in_err-forgotten.ensures.refused)

pub returns-clause-forgets : goal.returns-clause-forgets
returns-clause-forgets g c =
    (forgotten_view c.in_ok-asked.asked, rw c.as_slice.ensures.value at c.in_ok-asked.ensures, (c.in_ok-forgotten.forgotten, c.in_ok-forgotten.ensures.forgotten, c.in_ok-reply_of.ensures))
