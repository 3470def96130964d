use Rattle.std.proofs.Common.{List, map, subst}
use Rattle.std.specs.List.Sorted.{IsPermutation}
use Rattle.std.proofs.lemmas.List.Sorted.{IsPermutation-map}
use Rattle.audit_certificate.specs.Candidates.{Candidate}
use Rattle.audit_certificate.specs.RankedModule.{ranked_module}
use Rattle.audit_certificate.proofs.Taken.{ranked_moved}
use Rattle.audit_certificate.proofs.ranks.ranks.Goals as goal

pub returns-clause-same : goal.returns-clause-same
returns-clause-same c =
    subst (λ (ms : List Candidate). IsPermutation ms (map ranked_module c.sort.new.ranks.items)) c.in_ok-ranks.ensures.modules
    (IsPermutation-map ranked_module c.in_ok-ranks.ranks.items c.sort.new.ranks.items c.sort.ensures.same)

pub returns-clause-competitors : goal.returns-clause-competitors
returns-clause-competitors c = λ ms have. ranked_moved ms c.in_ok-ranks.ranks.items c.sort.new.ranks.items c.sort.ensures.same (c.in_ok-ranks.ensures.competitors ms have)
