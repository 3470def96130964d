use Rattle.std.proofs.Common.{◌≡◌, map, flat_map, take, string_bytes}
use Rattle.filetree.specs.Modulefiles.{directories}
use Rattle.audit_laws.specs.site.DirectorySets.{with_directories}
use Rattle.audit_site.proofs.directories.push_each.Given as goal

abbrev pub invariant-loop-element : goal.invariant-loop-element
invariant-loop-element l = map string_bytes l.dirs.keys ≡ with_directories (map string_bytes l.initial.dirs.keys) (flat_map directories (map string_bytes (take l.element-index l.elements)))
