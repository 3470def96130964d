use Rattle.std.proofs.Common.{◌≡◌, ◌++◌, map, string_bytes, take}
use Rattle.std.specs.Prelude.{flat_map}
use Rattle.module_explain.specs.Advised.{behind_comma}
use Rattle.module_explain.proofs.known.push_others.Given as goal

abbrev pub invariant-loop-name : goal.invariant-loop-name
invariant-loop-name l = string_bytes l.line ≡ string_bytes l.initial.line ++ flat_map behind_comma (map string_bytes (take l.name-index l.names))
