use Rattle.std.proofs.Common.{◌≡◌, ◌++◌, drop, map, string_bytes}
use Rattle.envvars.specs.Texts.{slice_texts}
use Rattle.envstate.specs.loaded_list.LoadedEntries.{entry_view}
use Rattle.module_auto.specs.Said.{meant_modules}
use Rattle.module_auto.proofs.said.meant_modules.Given as goal

abbrev pub invariant-loop-name : goal.invariant-loop-name
invariant-loop-name l =
    slice_texts l.modules.items ++ meant_modules (map entry_view l.entries) (map string_bytes (drop l.name-index l.names))
    ≡ meant_modules (map entry_view l.entries) (map string_bytes l.names)
