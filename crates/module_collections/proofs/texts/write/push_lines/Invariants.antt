use Rattle.std.proofs.Common.{◌≡◌, ◌++◌, map, string_bytes, take}
use Rattle.std.specs.Prelude.{flat_map}
use Rattle.module_collections.specs.texts.Spelling.{line}
use Rattle.module_collections.proofs.texts.write.push_lines.Given as goal

abbrev pub invariant-loop-word : goal.invariant-loop-word
invariant-loop-word l = l.text.items ≡ l.initial.text.items ++ flat_map (line l.front) (map string_bytes (take l.word-index l.words))
