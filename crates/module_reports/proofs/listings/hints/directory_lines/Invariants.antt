use Rattle.std.proofs.Common.{◌≡◌, flat_map, string_bytes, take}
use Rattle.envvars.specs.Texts.{slice_texts}
use Rattle.module_reports.specs.listings.Hints.{directory_line}
use Rattle.module_reports.proofs.listings.hints.directory_lines.Given as goal

abbrev pub invariant-loop-directory : goal.invariant-loop-directory
invariant-loop-directory l =
    string_bytes l.lines ≡ flat_map directory_line (slice_texts (take l.directory-index l.directory-items))
