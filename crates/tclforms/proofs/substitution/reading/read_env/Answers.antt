use Rattle.std.proofs.Common.{string_bytes, option_map, ap, ◌∙◌}
use Rattle.std.proofs.lemmas.Result.{err_from_is_err_and}
use Rattle.tclrules.specs.Derivation.{variable_read}
use Rattle.tclrules.proofs.Leading.{continue_with, read_on, want}
use Rattle.tclforms.proofs.substitution.Leading.{reason_stops}
use Rattle.tclforms.proofs.substitution.reading.read_env.Goals as goal

pub returns-in_err-value : goal.returns-in_err-value
returns-in_err-value g c =
    let p = err_from_is_err_and c.from_residual.result c.from_residual.ensures.1 in
    let h = c.in_err-value.ensures in
    rw (p.1, p.2) (λ most used scripts r k. want h.answer.0 h.answer.1 h.same)

pub returns-in-Some : goal.returns-in-Some
returns-in-Some g c =
    let h = c.in_ok-value.ensures in
    let read = h.answer.1 ∙ ap (λ v. variable_read c.args.name.now (option_map string_bytes v) (g.H.Host.trace c.args.host.now)) c.in-Some.is in
    (λ most used scripts r k. rw read (read_on (h.answer.0 ∙ ap (option_map string_bytes) c.in-Some.is) h.same))

pub returns-in-None : goal.returns-in-None
returns-in-None g c =
    let h = c.in_ok-value.ensures in
    let read = h.answer.1 ∙ ap (λ v. variable_read c.args.name.now (option_map string_bytes v) (g.H.Host.trace c.args.host.now)) c.in-None.is in
    (λ most used scripts r k. rw read (continue_with (read_on (h.answer.0 ∙ ap (option_map string_bytes) c.in-None.is) h.same) (rw c.from.ensures (reason_stops _ _ _ c.no_variable.ensures))))
