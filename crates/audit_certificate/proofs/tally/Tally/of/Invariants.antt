use Rattle.std.proofs.Common.{map, take}
use Rattle.audit_certificate.specs.Users.{uses_of_modules}
use Rattle.audit_certificate.specs.Tallies.{HasCounts}
use Rattle.audit_certificate.specs.UsingModules.{candidate_in}
use Rattle.audit_certificate.proofs.tally.Tally.of.Given as goal

abbrev pub invariant-loop-candidate : goal.invariant-loop-candidate
invariant-loop-candidate l = HasCounts l.tally (uses_of_modules (map candidate_in (take l.candidate-index l.users)))
