use Rattle.std.proofs.Common.{◌≡◌, Option, IfSome, map, string_bytes, sym, subst, ◌∙◌}
use Rattle.std.specs.Option.{option_map}
use Rattle.envstate.specs.paths.PathVariables.{path_reason}
use Rattle.modulefile.specs.Judgments.{bad_edit, record_reason}
use Rattle.modulefile.specs.RecordViews.{record_view}
use Rattle.modulefile_run.specs.declared.batch.PathChange.{PathChange}
use Rattle.modulefile_run.proofs.BatchLemmas.{unforbidden}
use Rattle.modulefile_run.proofs.batched_vars.BatchedVars.make_effect.Goals as goal

pub waits-requires-clause-reason : goal.waits-requires-clause-reason
waits-requires-clause-reason g c =
    unforbidden (path_reason c.in-Some.change.var.now c.in-Some.change.delim.character (map string_bytes c.in-Some.change.elements.now))
    (sym (subst (λ (o : Option PathChange). IfSome o (λ change. record_reason (record_view c.args.recorded.now)
    ≡ option_map bad_edit (path_reason change.var.now change.delim.character (map string_bytes change.elements.now))))
    c.in-Some.is c.path_change-change.ensures.reason) ∙ c.in_ok-judge.ensures)
