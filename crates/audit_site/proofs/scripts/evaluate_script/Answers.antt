use Rattle.std.proofs.Common.{◌≡◌, true, map, string_bytes, List, ◌++◌, ap, ◌∙◌, subst, String, Global}
use Rattle.std.specs.Prelude.{is_none, MatchOption}
use Rattle.envvars.specs.Texts.{Text, texts_in}
use Rattle.envvars.specs.Fields.{without_repeats}
use Rattle.modulefile_run.specs.Questions.{questions_in}
use Rattle.audit_laws.specs.determinism.StableInput.{variables_read}
use Rattle.audit_laws.specs.determinism.ContextViews.{context_view}
use Rattle.modulefile.specs.Answers.{FileContext}
use Rattle.modulefile.specs.RecordViews.{record_view}
use Rattle.audit_certificate.specs.Steps.{are_consistent}
use Rattle.audit_site.specs.Walks.{uses_told, AreUsedTwice}
use Rattle.modulefile_run.specs.declared.question.Question.{Question}
use Rattle.audit_laws.specs.determinism.LoadedAnswers.{are_few}
use Rattle.audit_laws.specs.determinism.Contexts.{EvaluationContext, other_contexts}
use Rattle.audit_site.specs.WalkParts.{site_context, ShowsAll}
use Rattle.audit_site.proofs.ScriptLemmas.{shows_script}
use Rattle.audit_site.proofs.scripts.evaluate_script.Goals as goal

pub returns : goal.returns
returns c =
    let a = c.args.settings in
    let s = c.args.script in
    let first = c.in_ok-first.first in
    let context : EvaluationContext → FileContext = λ w. site_context w s.name.now s.path.now a.env.now in
    let reads = c.in_ok-push_reads.ensures ∙ ap (λ (xs : List (String Global)). map string_bytes xs ++ variables_read (questions_in first.asked.items)) c.new-reads.ensures.items in
    let shows = subst (λ (l : List Text). ShowsAll a.limits context s.text.now first (map context_view c.as_slice-2.result.now) l (texts_in c.run_others.new.reads) c.in_ok-alike.alike) reads c.in_ok-alike.ensures.shows in
    shows_script a.limits context s.text.now first c.in_ok-first.ensures.0 (map context_view c.as_slice-2.result.now) (texts_in c.run_others.new.reads) c.in_ok-alike.alike c.in_ok-few.few
    (record { file = c.in_ok-file_of.field-0; reads = c.in_ok-reads.reads })
    c.in_ok-first.ensures.1 (ap (map context_view) c.as_slice-2.ensures.value ∙ (c.in_ok-ways.ensures ∙ ap (λ (qs : List Question). other_contexts (questions_in qs)) c.as_slice.ensures.value))
    shows (c.in_ok-few.ensures ∙ ap (λ (qs : List Question). are_few (questions_in qs)) c.as_slice-3.ensures.value)
    c.in_ok-file_of.ensures.records c.in_ok-file_of.ensures.unkept
    (subst (λ (xs : List (String Global)). MatchOption c.in_ok-file_of.field-0.unlike
    (are_consistent (uses_told (map record_view first.records.items) (is_none c.in_ok-file_of.field-0.unkept) (map string_bytes xs)) ≡ true)
    (AreUsedTwice (uses_told (map record_view first.records.items) (is_none c.in_ok-file_of.field-0.unkept) (map string_bytes xs)))) c.as_slice-5.ensures.value c.in_ok-file_of.ensures.unlike)
    (c.in_ok-reads.ensures ∙ ap (λ (xs : List (String Global)). without_repeats (map string_bytes xs)) c.as_slice-4.ensures.value)
