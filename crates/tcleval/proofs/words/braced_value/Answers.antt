use Rattle.std.proofs.lemmas.Result.{err_from_is_err_and}
use Rattle.tclrules.proofs.Leading.{starve}
use Rattle.tcleval.proofs.words.braced_value.Goals as goal

pub returns-in_err-value : goal.returns-in_err-value
returns-in_err-value c =
    let p = err_from_is_err_and c.from_residual.result c.from_residual.ensures.1 in
    λ most r k s x. rw (p.1, p.2, c.in_err-value.ensures.err) starve

pub returns : goal.returns
returns c = λ most r k s x. rw (← c.in_ok-value.ensures.ok) (c.sized.ensures.evaluates_to most r k s x)
