use Rattle.std.proofs.Common.{◌≡◌, ◌++◌, drop, flat_map, map, string_bytes}
use Rattle.module_reports.specs.descriptions.Readable.{unreadable_line}
use Rattle.module_reports.proofs.descriptions.readable.push_unreadable.Given as goal

abbrev pub invariant-loop-path : goal.invariant-loop-path
invariant-loop-path l =
    string_bytes l.initial.text ++ flat_map unreadable_line (map string_bytes l.paths)
    ≡ string_bytes l.text ++ flat_map unreadable_line (map string_bytes (drop l.path-index l.paths))
