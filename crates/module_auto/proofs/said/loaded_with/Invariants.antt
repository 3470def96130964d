use Rattle.std.proofs.Common.{◌≡◌, ◌++◌, drop, map, string_bytes}
use Rattle.envvars.specs.Texts.{slice_texts}
use Rattle.module_auto.specs.Said.{loaded_with}
use Rattle.module_auto.proofs.said.loaded_with.Given as goal

abbrev pub invariant-loop-one : goal.invariant-loop-one
invariant-loop-one l =
    slice_texts l.names.items ++ loaded_with (map string_bytes l.asked) (map string_bytes l.added) l.put_in (map string_bytes (drop l.one-index l.loaded))
    ≡ loaded_with (map string_bytes l.asked) (map string_bytes l.added) l.put_in (map string_bytes l.loaded)
