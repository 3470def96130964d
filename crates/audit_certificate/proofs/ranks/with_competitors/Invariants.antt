use Rattle.std.proofs.Common.{◌≡◌, List, map, take}
use Rattle.audit_certificate.specs.Candidates.{Candidate}
use Rattle.audit_certificate.specs.Users.{uses_of_modules}
use Rattle.audit_certificate.specs.Tallies.{HasCounts}
use Rattle.audit_certificate.specs.RankedModule.{ranked_module, AreRanked}
use Rattle.audit_certificate.specs.UsingModules.{candidate_in}
use Rattle.audit_certificate.proofs.ranks.with_competitors.Given as goal

abbrev pub invariant-loop-candidate : goal.invariant-loop-candidate
invariant-loop-candidate l = record {
  modules : map ranked_module l.ranks.items ≡ map candidate_in (take l.candidate-index l.users);
  competitors : (ms : List Candidate) → HasCounts l.tally (uses_of_modules ms) → AreRanked ms l.ranks.items;
}
