use Rattle.std.proofs.Common.{◌≡◌, map, take}
use Rattle.envvars.specs.Texts.{texts_in}
use Rattle.audit_laws.specs.determinism.LoadedAnswers.{loaded_beside}
use Rattle.audit_laws.proofs.determinism.loaded_answers.loaded_lists.Given as goal

abbrev pub invariant-loop-denied : goal.invariant-loop-denied
invariant-loop-denied l = map texts_in l.lists.items ≡ map (loaded_beside (texts_in l.names)) (map texts_in (take l.denied-index l.denied-items))
