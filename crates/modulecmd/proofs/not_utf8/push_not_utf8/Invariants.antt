use Rattle.std.proofs.Common.{◌≡◌, ◌++◌, map, string_bytes, take}
use Rattle.modulecmd.specs.NotUtf8.{lines_of}
use Rattle.modulecmd.proofs.not_utf8.push_not_utf8.Given as goal

abbrev pub invariant-loop-name : goal.invariant-loop-name
invariant-loop-name l = string_bytes l.report ≡ string_bytes l.initial.report ++ lines_of (map string_bytes (take l.name-index l.names))
