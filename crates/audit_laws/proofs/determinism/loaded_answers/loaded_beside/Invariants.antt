use Rattle.std.proofs.Common.{◌≡◌, map, take, string_bytes}
use Rattle.envvars.specs.Texts.{texts_in}
use Rattle.audit_laws.specs.determinism.LoadedAnswers.{loaded_beside}
use Rattle.audit_laws.proofs.determinism.loaded_answers.loaded_beside.Given as goal

abbrev pub invariant-loop-name : goal.invariant-loop-name
invariant-loop-name l = texts_in l.loaded ≡ loaded_beside (map string_bytes (take l.name-index l.names)) (map string_bytes l.others)
