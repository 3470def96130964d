use Rattle.std.proofs.Common.{sym, ◌∙◌, map}
use Rattle.modulefile.specs.RecordViews.{record_view}
use Rattle.modulefile_run.specs.Questions.{question_view}
use Rattle.audit_laws.specs.determinism.Contexts.{has_stable_answer}
use Rattle.audit_site.proofs.ScriptLemmas.{first_kept, none_unkept}
use Rattle.audit_site.proofs.scripts.file_of.Goals as goal

pub returns-in-Some-clause-unkept : goal.returns-in-Some-clause-unkept
returns-in-Some-clause-unkept c =
    first_kept (has_stable_answer c.args.alike (map record_view c.args.ran.records.items)) question_view c.args.ran.asked.items c.in-Some.place c.swap_remove.result
    (sym c.in_ok-place.ensures ∙ c.in-Some.is) c.swap_remove.ensures.value

pub returns-clause-unkept : goal.returns-clause-unkept
returns-clause-unkept c =
    none_unkept (has_stable_answer c.args.alike (map record_view c.args.ran.records.items)) question_view c.args.ran.asked.items (sym c.in_ok-place.ensures ∙ c.in-None.is)
