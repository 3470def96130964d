use Rattle.std.proofs.Common.{◌≡◌, flat_map, map, string_bytes, take}
use Rattle.modulefile.specs.Reports.{line_of}
use Rattle.module_subcommands.proofs.lines.lines_of.Given as goal

abbrev pub invariant-loop-name : goal.invariant-loop-name
invariant-loop-name l =
    string_bytes l.lines ≡ flat_map line_of (map string_bytes (take l.name-index l.names))
