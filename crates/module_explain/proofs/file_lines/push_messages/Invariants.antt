use Rattle.std.proofs.Common.{◌≡◌, ◌++◌, map, string_bytes, take}
use Rattle.std.specs.Prelude.{flat_map}
use Rattle.module_explain.specs.FileLines.{message_lines}
use Rattle.module_explain.proofs.file_lines.push_messages.Given as goal

abbrev pub invariant-loop-message : goal.invariant-loop-message
invariant-loop-message l = string_bytes l.text ≡ string_bytes l.initial.text ++ flat_map message_lines (map string_bytes (take l.message-index l.messages))
