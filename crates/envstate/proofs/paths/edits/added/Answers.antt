use Rattle.std.proofs.Common.{ap, sym, ◌∙◌, subst}
use Rattle.std.proofs.lemmas.Result.{err_from_is_err_and}
use Rattle.envvars.specs.Texts.{slice_texts}
use Rattle.envstate.specs.paths.Paths.{add_all}
use Rattle.envstate.specs.paths.Tables.{counter_in, state_from_table}
use Rattle.envstate.specs.paths.PathVariables.{counters_fit}
use Rattle.envstate.specs.paths.PathEdits.{AreTexts, IsFull}
use Rattle.envstate.proofs.paths.PathSteps.{small_fits}
use Rattle.envstate.proofs.paths.edits.added.Goals as goal

pub returns-in_err-add_each : goal.returns-in_err-add_each
returns-in_err-add_each c =
    let p = err_from_is_err_and c.from_residual-in_err-add_each.result c.from_residual-in_err-add_each.ensures.1 in
    rw (p.1, p.2)
    (subst (IsFull c.in_err-add_each.field-0.0 c.args.var.now) (ap (λ s. add_all s (slice_texts c.args.more.now) c.args.end) c.in_ok-path.ensures.state) c.in_err-add_each.ensures.full)

pub returns : goal.returns
returns c =
    let state = c.in_ok-add_each.ensures.ok ∙ ap (λ s. add_all s (slice_texts c.args.more.now) c.args.end) c.in_ok-path.ensures.state in (
      ap counters_fit (sym state) ∙ small_fits (state_from_table (slice_texts c.add_each.new.path.elements.items) (counter_in c.add_each.new.path.counters)) c.in_ok-add_each.ensures.still_fits,
      subst (AreTexts c.in_ok-write_path.field-0 c.args.delim) state c.in_ok-write_path.ensures,
    )
