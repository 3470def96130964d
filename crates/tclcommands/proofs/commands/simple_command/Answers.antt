use Rattle.tclrules.proofs.Leading.{continue_with}
use Rattle.tclforms.proofs.substitution.Leading.{passed_on}
use Rattle.std.proofs.Common.{[]}
use Rattle.tclcommands.specs.Completions.{sized_next}
use Rattle.std.proofs.lemmas.Result.{err_from_is_err_and}
use Rattle.tclcommands.proofs.commands.simple_command.Goals as goal

pub returns-in_err-value : goal.returns-in_err-value
returns-in_err-value g c =
    let p = err_from_is_err_and c.from_residual.result c.from_residual.ensures.1 in
    ([], rw p.1 tt, λ most remaining used scripts r k. passed_on _ _ _ _ c.from_residual.ensures.1 (c.in_err-value.ensures most remaining used scripts r (sized_next c.args.limits.value_bytes k)))

pub returns : goal.returns
returns g c =
    let a = c.result_text.ensures in
    (a.0, a.1, λ most remaining used scripts r k. continue_with (c.in_ok-value.ensures most remaining used scripts r (sized_next c.args.limits.value_bytes k)) (a.2 most r k _))
