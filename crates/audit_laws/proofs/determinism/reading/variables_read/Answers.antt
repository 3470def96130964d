use Rattle.std.proofs.Common.{◌∙◌, ap, map, List}
use Rattle.std.specs.Prelude.{filter_map}
use Rattle.std.proofs.lemmas.List.{take_all}
use Rattle.envvars.specs.Texts.{slice_texts}
use Rattle.modulefile_run.specs.Questions.{question_view}
use Rattle.modulefile_run.specs.declared.question.Question.{Question}
use Rattle.audit_laws.specs.determinism.StableInput.{read_by}
use Rattle.audit_laws.proofs.determinism.Seen.{kept_more}
use Rattle.audit_laws.proofs.determinism.reading.variables_read.Goals as goal

pub loop-question-preserved : goal.loop-question-preserved
loop-question-preserved c =
    kept_more read_by question_view c.args.questions.now c.loop-question.question-index c.question-item.result (slice_texts c.loop-question.names.items) (slice_texts c.push_read.new.names.items)
    c.loop-question-test.true c.question-item.is c.loop-question.invariant c.in_ok-push_read.ensures

pub returns : goal.returns
returns c =
    c.loop-question.invariant
    ∙ ap (λ (qs : List Question). filter_map read_by (map question_view qs)) (take_all c.loop-question.question-index c.args.questions.now c.loop-question-test.false)
