use Rattle.std.proofs.Common.{◌≡◌, ◌++◌, map, take, string_bytes}
use Rattle.envvars.specs.Texts.{slice_texts}
use Rattle.audit_laws.proofs.determinism.equivalent.push_names.Given as goal

abbrev pub invariant-loop-name : goal.invariant-loop-name
invariant-loop-name l = slice_texts l.names.items ≡ slice_texts l.initial.names.items ++ map string_bytes (take l.name-index l.name-items)
