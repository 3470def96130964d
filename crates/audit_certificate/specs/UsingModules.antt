-- Candidates with what they use in the code, as the definitions see them (own).
use Rattle.audit_certificate.specs.Candidates.{Candidate}
use Rattle.audit_certificate.specs.CandidateViews.{candidate_view}
use Rattle.audit_certificate.specs.declared.module_uses.UsingModule.{UsingModule}

-- the candidate
abbrev pub candidate_in : UsingModule → Candidate
candidate_in using = candidate_view using.owner.now
