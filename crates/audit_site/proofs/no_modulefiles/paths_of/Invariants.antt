use Rattle.std.proofs.Common.{◌≡◌, map, flat_map, take, string_bytes}
use Rattle.audit_site.specs.FilesBelow.{path_by_entry}
use Rattle.audit_site.proofs.no_modulefiles.paths_of.Given as goal

abbrev pub invariant-loop-entry : goal.invariant-loop-entry
invariant-loop-entry l = map string_bytes l.paths.items ≡ flat_map (path_by_entry l.folder) (take l.entry-index l.entries)
