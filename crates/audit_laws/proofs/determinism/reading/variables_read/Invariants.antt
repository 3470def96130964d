use Rattle.std.proofs.Common.{◌≡◌, map, take}
use Rattle.std.specs.Prelude.{filter_map}
use Rattle.envvars.specs.Texts.{slice_texts}
use Rattle.modulefile_run.specs.Questions.{question_view}
use Rattle.audit_laws.specs.determinism.StableInput.{read_by}
use Rattle.audit_laws.proofs.determinism.reading.variables_read.Given as goal

abbrev pub invariant-loop-question : goal.invariant-loop-question
invariant-loop-question l = slice_texts l.names.items ≡ filter_map read_by (map question_view (take l.question-index l.questions))
