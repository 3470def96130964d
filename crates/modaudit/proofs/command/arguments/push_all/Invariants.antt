use Rattle.std.proofs.Common.{◌≡◌, ◌++◌, map, string_bytes, take}
use Rattle.modaudit.proofs.command.arguments.push_all.Given as goal

abbrev pub invariant-loop-word : goal.invariant-loop-word
invariant-loop-word l = map string_bytes l.directories.items ≡ map string_bytes l.initial.directories.items ++ map string_bytes (take l.word-index l.words)
