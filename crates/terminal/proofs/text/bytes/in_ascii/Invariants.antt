use Rattle.std.proofs.Common.{◌≡◌, flat_map, string_bytes, take}
use Rattle.terminal.specs.text.Bytes.{character_of}
use Rattle.terminal.proofs.text.bytes.in_ascii.Given as goal

abbrev pub invariant-loop-byte : goal.invariant-loop-byte
invariant-loop-byte l = string_bytes l.text ≡ flat_map character_of (take l.byte-index l.bytes)
