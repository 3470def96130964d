use Rattle.std.proofs.Common.{◌≡◌, map, flat_map, take}
use Rattle.audit_site.specs.Audits.{addition_of}
use Rattle.audit_site.specs.Unreachable.{additions_after}
use Rattle.audit_site.specs.Mentions.{known_in}
use Rattle.audit_site.proofs.unreachable.unreachable_beside.Given as goal

abbrev pub invariant-loop-module : goal.invariant-loop-module
invariant-loop-module l = map addition_of l.found.items ≡ flat_map (additions_after (known_in l.deterministic.keys)) (take l.module-index l.evaluations)
