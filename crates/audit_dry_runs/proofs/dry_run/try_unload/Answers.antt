use Rattle.std.proofs.Common.{List, map, string_bytes, String, ap, ◌∙◌}
use Rattle.std.specs.declared.alloc.Global.{Global}
use Rattle.envvars.specs.Changes.{new_values_in}
use Rattle.envvars.specs.Texts.{Text, texts_in}
use Rattle.modules.specs.Verdicts.{in_sh}
use Rattle.modules.specs.Views.{done_view}
use Rattle.audit_dry_runs.specs.DryRuns.{unset_among}
use Rattle.audit_dry_runs.specs.Views.{dry_run_view}
use Rattle.audit_dry_runs.proofs.DryRunLemmas.{ends_so, left_so}
use Rattle.audit_dry_runs.proofs.dry_run.try_unload.Goals as goal

pub returns-clause-ended : goal.returns-clause-ended
returns-clause-ended g c = λ files listings agreed.
    let bytes : List (String Global) → List Text = λ l. map (λ (s : String Global). string_bytes s) l in
    let back = c.do_in_sh.new.env in
    let cs = new_values_in c.in_ok-changes.changes in
    let lost = texts_in c.in_ok-lost.lost in
    let was = ap bytes c.as_slice.ensures.value ∙ c.in_ok-set.ensures in
    ends_so c.changes.ensures (in_sh c.args.limits files listings) (bytes c.args.not_utf8.now) c.args.start.now c.args.env.now
    c.args.name.now (done_view c.in_default.field-0 back) cs lost (dry_run_view c.dry_run_of.result)
    (rw (c.in_ok-action.ensures, c.in_default.is) at (c.in_ok-refusal.ensures.answered files listings agreed))
    c.in_ok-changes.ensures.ok (c.in_ok-lost.ensures ∙ ap (λ (l : List Text). unset_among back l) was)
    (left_so (texts_in c.in_ok-names.names) cs lost (dry_run_view c.dry_run_of.result) c.in_ok-names.ensures c.dry_run_of.ensures)

pub returns-in-Err-clause-failed : goal.returns-in-Err-clause-failed
returns-in-Err-clause-failed g c = rw (c.in_ok-action.ensures, c.in-Err.is) at c.in_ok-refusal.ensures.failed
