use Rattle.std.proofs.Common.{◌≡◌, ◌++◌, map, take, string_bytes}
use Rattle.audit_site.specs.Audits.{mention_of, conflict_mention}
use Rattle.audit_site.specs.DeterministicRuns.{evaluated_file}
use Rattle.audit_site.proofs.names.push_conflicts.Given as goal

abbrev pub invariant-loop-name : goal.invariant-loop-name
invariant-loop-name l =
    map mention_of l.found.items
    ≡ map mention_of l.initial.found.items ++ map (conflict_mention (evaluated_file l.module)) (map string_bytes (take l.name-index l.names))
