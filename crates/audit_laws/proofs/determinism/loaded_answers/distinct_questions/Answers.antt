use Rattle.modulefile_run.specs.Questions.{question_view, questions_in}
use Rattle.audit_laws.specs.determinism.LoadedAnswers.{distinct_questions}
use Rattle.audit_laws.specs.determinism.ContextViews.{text_lists}
use Rattle.audit_laws.proofs.determinism.Asked.{asked_more}
use Rattle.audit_laws.proofs.determinism.loaded_answers.distinct_questions.Goals as goal

pub loop-question-preserved : goal.loop-question-preserved
loop-question-preserved c =
    asked_more question_view c.args.asked.now c.loop-question.question-index c.question-item.result (text_lists c.loop-question.questions.items)
    (text_lists c.push_question.new.questions.items) (distinct_questions (questions_in c.args.asked.now)) c.loop-question-test.true c.question-item.is
    c.loop-question.invariant c.in_ok-push_question.ensures
