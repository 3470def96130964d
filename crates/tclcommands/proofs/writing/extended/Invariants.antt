use Rattle.std.proofs.Common.{◌≡◌, ◌++◌, [], drop, map, string_bytes}
use Rattle.tclvalue.specs.Characters.{joined}
use Rattle.tclcommands.proofs.writing.extended.Given as goal

abbrev pub invariant-loop-value : goal.invariant-loop-value
invariant-loop-value l = string_bytes l.text ++ joined [] (map string_bytes (drop l.value-index l.values)) ≡ string_bytes l.fn.text ++ joined [] (map string_bytes l.values)
