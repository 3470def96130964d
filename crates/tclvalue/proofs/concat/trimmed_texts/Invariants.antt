use Rattle.std.proofs.Common.{◌≡◌, map, filter, not, string_bytes, take}
use Rattle.tclvalue.specs.operators.Operators.{is_nil}
use Rattle.tclvalue.specs.Characters.{trimmed, white_space}
use Rattle.tclvalue.proofs.concat.trimmed_texts.Given as goal

abbrev pub invariant-loop-text : goal.invariant-loop-text
invariant-loop-text l = map string_bytes l.all.items ≡ filter (λ t. not (is_nil t)) (map (trimmed white_space) (map string_bytes (take l.text-index l.texts)))
