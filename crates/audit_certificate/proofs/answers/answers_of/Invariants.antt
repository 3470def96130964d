use Rattle.std.proofs.Common.{List, map, take}
use Rattle.audit_certificate.specs.Candidates.{Candidate}
use Rattle.audit_certificate.specs.Users.{AreUsersOf, uses_of_modules}
use Rattle.audit_certificate.specs.Certificates.{selected}
use Rattle.audit_certificate.specs.ClashAnswers.{AreAnswers}
use Rattle.audit_certificate.specs.Tables.{users_at}
use Rattle.audit_certificate.specs.Tallies.{HasCounts}
use Rattle.audit_certificate.specs.UsingModules.{candidate_in}
use Rattle.audit_certificate.proofs.answers.answers_of.Given as goal

abbrev pub invariant-loop-candidate : goal.invariant-loop-candidate
invariant-loop-candidate l = (ms : List Candidate) → HasCounts l.tally (uses_of_modules ms) → AreUsersOf (users_at l.table) (uses_of_modules (selected ms))
    → AreAnswers ms (map candidate_in (take l.candidate-index l.users)) l.found.items
