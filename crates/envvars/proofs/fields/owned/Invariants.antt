use Rattle.std.proofs.Common.{◌≡◌, map, string_bytes, take}
use Rattle.envvars.specs.Texts.{slice_texts}
use Rattle.envvars.proofs.fields.owned.Given as goal

abbrev pub invariant-loop-text : goal.invariant-loop-text
invariant-loop-text l = map string_bytes l.owned.items ≡ slice_texts (take l.text-index l.texts)
