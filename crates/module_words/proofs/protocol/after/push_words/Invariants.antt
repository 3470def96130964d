use Rattle.std.proofs.Common.{◌≡◌, ◌++◌, flat_map, map, string_bytes, take}
use Rattle.module_words.specs.protocol.After.{behind_blank}
use Rattle.module_words.proofs.protocol.after.push_words.Given as goal

abbrev pub invariant-loop-word : goal.invariant-loop-word
invariant-loop-word l =
    string_bytes l.line ≡ string_bytes l.initial.line ++ flat_map (behind_blank l.family) (map string_bytes (take l.word-index l.words))
