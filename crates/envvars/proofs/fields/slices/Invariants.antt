use Rattle.std.proofs.Common.{◌≡◌, map, string_bytes, take}
use Rattle.envvars.specs.Texts.{slice_texts}
use Rattle.envvars.proofs.fields.slices.Given as goal

abbrev pub invariant-loop-text : goal.invariant-loop-text
invariant-loop-text l = slice_texts l.slices.items ≡ map string_bytes (take l.text-index l.texts)
