use Rattle.std.proofs.Common.{◌≡◌, map, drop}
use Rattle.modulefile_run.specs.Questions.{question_view, questions_in}
use Rattle.audit_laws.specs.determinism.StableInput.{loaded_questions}
use Rattle.audit_laws.specs.determinism.LoadedAnswers.{once_after, distinct_questions}
use Rattle.audit_laws.specs.determinism.ContextViews.{text_lists}
use Rattle.audit_laws.proofs.determinism.loaded_answers.distinct_questions.Given as goal

-- those so far, with what is new of those that are left, are all
abbrev pub invariant-loop-question : goal.invariant-loop-question
invariant-loop-question l =
    once_after (text_lists l.questions.items) (loaded_questions (map question_view (drop l.question-index l.asked)))
    ≡ distinct_questions (questions_in l.asked)
