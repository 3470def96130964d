use Rattle.std.proofs.Common.{◌≡◌, ◌++◌, map, string_bytes}
use Rattle.std.specs.Iterator.Adapters.{zip_first, zip_second}
use Rattle.std.specs.Slice.Iter.{iter_rest}
use Rattle.module_reports.specs.descriptions.Written.{left_lines}
use Rattle.module_reports.proofs.descriptions.left_out.left_lines.Given as goal

-- the lines so far, and then those of the rest
abbrev pub invariant-loop-name : goal.invariant-loop-name
invariant-loop-name l =
    string_bytes l.text ++ left_lines (map string_bytes (iter_rest (zip_first l.name-iterator))) (iter_rest (zip_second l.name-iterator))
    ≡ left_lines (map string_bytes l.names) l.outcomes
