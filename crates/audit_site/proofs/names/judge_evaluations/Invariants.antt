use Rattle.std.proofs.Common.{◌≡◌, map, flat_map, take}
use Rattle.audit_site.specs.Audits.{mention_of}
use Rattle.audit_site.specs.Mentions.{known_in, unknown_after}
use Rattle.audit_site.proofs.names.judge_evaluations.Given as goal

abbrev pub invariant-loop-module : goal.invariant-loop-module
invariant-loop-module l = map mention_of l.found.items ≡ flat_map (unknown_after (known_in l.meaning.known.keys) (known_in l.meaning.accepted.keys)) (take l.module-index l.evaluations)
