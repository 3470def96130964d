use Rattle.std.proofs.Common.{◌≡◌, List, map, take}
use Rattle.std.specs.List.{count_by, sum_by}
use Rattle.audit_certificate.specs.Candidates.{Candidate}
use Rattle.audit_certificate.specs.Users.{uses_of_modules}
use Rattle.audit_certificate.specs.Ranks.{is_competitor}
use Rattle.audit_certificate.specs.Tallies.{HasCounts}
use Rattle.audit_certificate.specs.UsingModules.{candidate_in}
use Rattle.audit_certificate.proofs.TableLemmas.{use_of}
use Rattle.audit_certificate.proofs.tally.Tally.competitors.Given as goal

abbrev pub invariant-loop-used : goal.invariant-loop-used
invariant-loop-used l = (ms : List Candidate) → HasCounts l.self (uses_of_modules ms)
    → l.number ≡ sum_by (λ x. count_by (is_competitor x) (uses_of_modules ms)) (map (use_of (candidate_in l.candidate)) (take l.used-index l.used-items))
