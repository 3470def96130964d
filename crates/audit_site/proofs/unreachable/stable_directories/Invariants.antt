use Rattle.std.proofs.Common.{◌≡◌, [], flat_map, map, take, string_bytes}
use Rattle.filetree.specs.Modulefiles.{directories}
use Rattle.audit_laws.specs.site.DirectorySets.{with_directories}
use Rattle.audit_site.specs.Unreachable.{stable_additions}
use Rattle.audit_site.proofs.unreachable.stable_directories.Given as goal

abbrev pub invariant-loop-evaluation : goal.invariant-loop-evaluation
invariant-loop-evaluation l =
    map string_bytes l.deterministic.keys
    ≡ with_directories (with_directories [] (directories l.modulepath)) (flat_map stable_additions (take l.evaluation-index l.evaluations))
