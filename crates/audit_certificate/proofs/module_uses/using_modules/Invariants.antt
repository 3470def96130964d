use Rattle.std.proofs.Common.{◌≡◌, map, take}
use Rattle.audit_certificate.specs.CandidateViews.{candidate_view}
use Rattle.audit_certificate.specs.UsingModules.{candidate_in}
use Rattle.audit_certificate.proofs.module_uses.using_modules.Given as goal

abbrev pub invariant-loop-candidate : goal.invariant-loop-candidate
invariant-loop-candidate l = map candidate_in l.users.items ≡ map candidate_view (take l.candidate-index l.candidates)
