use Rattle.std.proofs.Common.{ap, sym, ◌∙◌, subst}
use Rattle.std.proofs.lemmas.Result.{err_from_is_err_and}
use Rattle.envvars.specs.Texts.{slice_texts}
use Rattle.envstate.specs.paths.Paths.{add_all, add_front}
use Rattle.envstate.specs.paths.Tables.{counter_in, state_from_table}
use Rattle.envstate.specs.paths.PathEdits.{IsFull}
use Rattle.envstate.proofs.paths.adding.add_each.Goals as goal

pub returns-in_err-path-in-Front-clause-full : goal.returns-in_err-path-in-Front-clause-full
returns-in_err-path-in-Front-clause-full c =
    let p = err_from_is_err_and c.from_residual.result c.from_residual.ensures.1 in
    rw (p.1, p.2)
    (subst (IsFull c.in_err-path-in-Front.field-0.0 c.args.var.now)
    (ap (λ l. add_front (state_from_table (slice_texts l) (counter_in c.args.path.now.counters)) (slice_texts c.args.more.now)) c.as_slice.ensures.value
    ∙ ap (add_all (state_from_table (slice_texts c.args.path.now.elements.items) (counter_in c.args.path.now.counters)) (slice_texts c.args.more.now)) (sym c.in-Front.is))
    c.in_err-path-in-Front.ensures.full)
