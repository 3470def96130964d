use Rattle.std.proofs.Common.{◌≡◌, ◌++◌, map, take, string_bytes}
use Rattle.message.proofs.texts.with_copies.Given as goal

abbrev pub invariant-loop-text : goal.invariant-loop-text
invariant-loop-text l = map string_bytes l.texts.items ≡ map string_bytes l.fn.texts.items ++ map string_bytes (take l.text-index l.others)
