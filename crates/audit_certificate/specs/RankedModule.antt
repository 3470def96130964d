-- Modules with the numbers of their competitors in the code, and which of them are taken in their order (own).
use Rattle.std.specs.Prelude.{◌≡◌, Bool, ◌&&◌, List, [], ◌∷◌, ◌++◌, if◌then◌else◌}
use Rattle.std.specs.List.{list_any, fold}
use Rattle.std.specs.declared.cmp.Ordering.{Ordering}
use Rattle.std.specs.Ordering.{nat_cmp, on, then_cmp}
use Rattle.std.specs.Cmp.Lexicographic.{slice_cmp}
use Rattle.audit_certificate.specs.RecordUses.{IsAmong}
use Rattle.audit_certificate.specs.Candidates.{Candidate}
use Rattle.audit_certificate.specs.Clashes.{is_other, do_clash}
use Rattle.audit_certificate.specs.Ranks.{competitors}
use Rattle.audit_certificate.specs.UsingModules.{candidate_in}
use Rattle.audit_certificate.specs.declared.ranks.RankedModule.{RankedModule}

-- the module
abbrev pub ranked_module : RankedModule → Candidate
ranked_module r = candidate_in r.candidate.now

-- their order, by the numbers that they have
abbrev pub ranked_order : RankedModule → RankedModule → Ordering
ranked_order =
    then_cmp (on (λ r. r.competitors) nat_cmp)
    (then_cmp (on (λ r. (ranked_module r).name) (slice_cmp nat_cmp))
    (on (λ r. (ranked_module r).path) (slice_cmp nat_cmp)))

-- each has the number of its competitors among these modules
abbrev pub AreRanked : List Candidate → List RankedModule → Type 0
AreRanked ms ranks = (r : RankedModule) → IsAmong r ranks → r.competitors ≡ competitors ms (ranked_module r)

-- the module clashes with one of these
abbrev pub clashes_among : List Candidate → Candidate → Bool
clashes_among ms m = list_any (λ n. is_other m n && do_clash m n) ms

-- the modules with this one, unless it clashes with one of them
abbrev pub with_next : List Candidate → Candidate → List Candidate
with_next ms m = if clashes_among ms m then ms else ms ++ m ∷ []

-- of some modules those that are taken, one after another
abbrev pub taken : List Candidate → List Candidate
taken ms = fold with_next [] ms
