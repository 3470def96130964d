use Rattle.std.proofs.Common.{◌≡◌, map, string_bytes, take}
use Rattle.tclvalue.specs.Characters.{encoded_all}
use Rattle.tclvalue.proofs.lists.texts_of.Given as goal

abbrev pub invariant-loop-character_run : goal.invariant-loop-character_run
invariant-loop-character_run l = map string_bytes l.texts.items ≡ encoded_all (map (λ r. r.now) (take l.character_run-index l.character_runs))
