use Rattle.std.proofs.Common.{◌≡◌, map, take, string_bytes}
use Rattle.audit_laws.specs.site.DirectorySets.{with_directories}
use Rattle.audit_site.specs.WalkParts.{directories_found}
use Rattle.audit_site.proofs.directories.push_found.Given as goal

abbrev pub invariant-loop-evaluation : goal.invariant-loop-evaluation
invariant-loop-evaluation l = map string_bytes l.dirs.keys ≡ with_directories (map string_bytes l.initial.dirs.keys) (directories_found (take l.evaluation-index l.evaluations))
