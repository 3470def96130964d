use Rattle.std.proofs.Common.{◌≡◌, ◌++◌, map, string_bytes, take}
use Rattle.envvars.specs.Texts.{slice_texts}
use Rattle.modules.proofs.rehearsals.loading.push_names.Given as goal

abbrev pub invariant-loop-name : goal.invariant-loop-name
invariant-loop-name l = slice_texts l.names.items ≡ slice_texts l.initial.names.items ++ map string_bytes (take l.name-index l.loaded)
