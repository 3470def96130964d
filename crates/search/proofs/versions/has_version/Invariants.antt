use Rattle.std.proofs.Common.{◌≡◌, drop, map, string_bytes}
use Rattle.std.specs.List.{list_any}
use Rattle.search.specs.Versions.{is_version}
use Rattle.search.proofs.versions.has_version.Given as goal

abbrev pub invariant-loop-entry : goal.invariant-loop-entry
invariant-loop-entry l = list_any (is_version l.name) (map string_bytes l.entries) ≡ list_any (is_version l.name) (map string_bytes (drop l.entry-index l.entries))
