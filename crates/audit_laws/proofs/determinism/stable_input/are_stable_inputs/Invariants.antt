use Rattle.std.proofs.Common.{◌≡◌, true, map, take}
use Rattle.std.specs.List.{list_all}
use Rattle.modulefile.specs.RecordViews.{record_view}
use Rattle.modulefile_run.specs.Questions.{question_view}
use Rattle.audit_laws.specs.determinism.StableInput.{is_stable_input}
use Rattle.audit_laws.proofs.determinism.stable_input.are_stable_inputs.Given as goal

abbrev pub invariant-loop-question : goal.invariant-loop-question
invariant-loop-question l = list_all (λ q. is_stable_input (map record_view l.ran.records.items) (question_view q)) (take l.question-index l.ran.asked.items) ≡ true
