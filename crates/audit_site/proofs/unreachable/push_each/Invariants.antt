use Rattle.std.proofs.Common.{◌≡◌, ◌++◌, map, take, string_bytes}
use Rattle.audit_site.specs.Audits.{addition_of}
use Rattle.audit_site.specs.Unreachable.{additions_among}
use Rattle.audit_site.specs.Mentions.{known_in}
use Rattle.audit_site.specs.DeterministicRuns.{evaluated_file}
use Rattle.audit_site.proofs.unreachable.push_each.Given as goal

abbrev pub invariant-loop-dir : goal.invariant-loop-dir
invariant-loop-dir l =
    map addition_of l.found.items
    ≡ map addition_of l.initial.found.items ++ additions_among (known_in l.deterministic.keys) (evaluated_file l.module) (map string_bytes (take l.dir-index l.dirs))
