use Rattle.std.proofs.Common.{map, ap, ◌∙◌, take_all, List, ◌||◌, Bool}
use Rattle.modulefile_run.specs.Questions.{question_view}
use Rattle.modulefile_run.specs.declared.question.Question.{Question}
use Rattle.audit_laws.specs.determinism.StableInput.{field_of, is_mode, is_shell, asks_mode, asks_shell}
use Rattle.audit_laws.proofs.determinism.Seen.{any_more}
use Rattle.audit_laws.proofs.determinism.asking.asked_of_context.Goals as goal

pub loop-question-preserved : goal.loop-question-preserved
loop-question-preserved c = (
  any_more (λ q. is_mode (field_of q)) question_view c.args.questions.now c.loop-question.question-index c.question-item.result c.loop-question.mode _
      c.loop-question-test.true c.question-item.is c.loop-question.invariant.0 (ap (λ (b : Bool). c.loop-question.mode || b) (c.is_mode-mode.ensures ∙ ap is_mode c.in_ok-field.ensures)),
  any_more (λ q. is_shell (field_of q)) question_view c.args.questions.now c.loop-question.question-index c.question-item.result c.loop-question.shell _
      c.loop-question-test.true c.question-item.is c.loop-question.invariant.1 (ap (λ (b : Bool). c.loop-question.shell || b) (c.is_shell-shell.ensures ∙ ap is_shell c.in_ok-field.ensures)),
)

pub returns-clause-mode : goal.returns-clause-mode
returns-clause-mode c =
    c.loop-question.invariant.0
    ∙ ap (λ (qs : List Question). asks_mode (map question_view qs)) (take_all c.loop-question.question-index c.args.questions.now c.loop-question-test.false)

pub returns-clause-shell : goal.returns-clause-shell
returns-clause-shell c =
    c.loop-question.invariant.1
    ∙ ap (λ (qs : List Question). asks_shell (map question_view qs)) (take_all c.loop-question.question-index c.args.questions.now c.loop-question-test.false)
