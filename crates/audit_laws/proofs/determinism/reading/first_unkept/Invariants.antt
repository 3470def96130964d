use Rattle.std.proofs.Common.{◌≡◌, true, map, take}
use Rattle.std.specs.List.{list_all}
use Rattle.modulefile.specs.RecordViews.{record_view}
use Rattle.modulefile_run.specs.Questions.{question_view}
use Rattle.audit_laws.specs.determinism.Contexts.{has_stable_answer}
use Rattle.audit_laws.proofs.determinism.reading.first_unkept.Given as goal

abbrev pub invariant-loop-place : goal.invariant-loop-place
invariant-loop-place l = list_all (λ q. has_stable_answer l.alike (map record_view l.ran.records.items) (question_view q)) (take l.place l.ran.asked.items) ≡ true
