use Rattle.std.proofs.Common.{◌≡◌, ◌++◌, drop, map, string_bytes}
use Rattle.envvars.specs.Texts.{texts_in}
use Rattle.modulefile.specs.Calls.{elements_of}
use Rattle.modulefile.proofs.recording.elements.Given as goal

abbrev pub invariant-loop-value : goal.invariant-loop-value
invariant-loop-value l = texts_in l.elements ++ elements_of l.delim.character (map string_bytes (drop l.value-index l.values)) ≡ elements_of l.delim.character (map string_bytes l.values)
