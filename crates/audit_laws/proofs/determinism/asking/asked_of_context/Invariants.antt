use Rattle.std.proofs.Common.{◌≡◌, map, take}
use Rattle.modulefile_run.specs.Questions.{question_view}
use Rattle.audit_laws.specs.determinism.StableInput.{asks_mode, asks_shell}
use Rattle.audit_laws.proofs.determinism.asking.asked_of_context.Given as goal

abbrev pub invariant-loop-question : goal.invariant-loop-question
invariant-loop-question l =
    (l.mode ≡ asks_mode (map question_view (take l.question-index l.questions)))
    × (l.shell ≡ asks_shell (map question_view (take l.question-index l.questions)))
