use Rattle.std.proofs.Common.{◌≡◌, ◌++◌, flat_map, string_bytes, take}
use Rattle.envvars.specs.Texts.{slice_texts}
use Rattle.module_auto.specs.Said.{behind_blank}
use Rattle.module_auto.proofs.said.push_names.Given as goal

abbrev pub invariant-loop-name : goal.invariant-loop-name
invariant-loop-name l =
    string_bytes l.line ≡ string_bytes l.initial.line ++ flat_map behind_blank (slice_texts (take l.name-index l.names))
