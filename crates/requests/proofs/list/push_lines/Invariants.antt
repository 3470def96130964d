use Rattle.std.proofs.Common.{◌≡◌, ◌++◌, map, flat_map, take, string_bytes}
use Rattle.modulefile.specs.Reports.{line_of}
use Rattle.requests.proofs.list.push_lines.Given as goal

abbrev pub invariant-loop-text : goal.invariant-loop-text
invariant-loop-text l = string_bytes l.report ≡ string_bytes l.initial.report ++ flat_map line_of (map string_bytes (take l.text-index l.texts))
