use Rattle.std.proofs.Common.{◌≡◌, map, take, string_bytes}
use Rattle.audit_laws.specs.site.DirectorySets.{with_directories}
use Rattle.audit_laws.proofs.site.directory_set.push_directories.Given as goal

abbrev pub invariant-loop-dir : goal.invariant-loop-dir
invariant-loop-dir l = map string_bytes l.dirs.keys ≡ with_directories (map string_bytes l.initial.dirs.keys) (map (λ dir. dir.now) (take l.dir-index l.dir-items))
