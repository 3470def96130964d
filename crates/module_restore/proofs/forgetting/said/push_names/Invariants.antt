use Rattle.std.proofs.Common.{◌≡◌, ◌++◌, flat_map, map, string_bytes, take}
use Rattle.module_restore.specs.forgetting.Said.{behind_blank}
use Rattle.module_restore.proofs.forgetting.said.push_names.Given as goal

abbrev pub invariant-loop-name : goal.invariant-loop-name
invariant-loop-name l = string_bytes l.line ≡ string_bytes l.initial.line ++ flat_map behind_blank (map string_bytes (take l.name-index l.names))
