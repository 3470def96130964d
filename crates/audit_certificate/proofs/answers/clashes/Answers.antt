use Rattle.std.proofs.Common.{◌≡◌, List, map, ap, ◌∙◌, subst}
use Rattle.std.proofs.lemmas.Result.{IfOk-weaker}
use Rattle.audit_certificate.specs.Candidates.{Candidate, uses_of_all}
use Rattle.audit_certificate.specs.CandidateViews.{candidate_view}
use Rattle.audit_certificate.specs.ClashAnswers.{AreAnswers, without_clashes}
use Rattle.audit_certificate.specs.EachOnce.{each_once}
use Rattle.audit_certificate.specs.UsingModules.{candidate_in}
use Rattle.audit_certificate.proofs.answers.clashes.Goals as goal

pub returns-clause-answers : goal.returns-clause-answers
returns-clause-answers c =
    let all : map candidate_in c.as_slice.result.now ≡ map candidate_view c.args.candidates.now = ap (map candidate_in) c.as_slice.ensures.value ∙ c.in_ok-users.ensures in
    IfOk-weaker c.clashes_of.result _ _ (λ found a. subst (λ (l : List Candidate). AreAnswers l l found.answers.items) all a) c.clashes_of.ensures.answers

pub returns-clause-uses : goal.returns-clause-uses
returns-clause-uses c =
    let all : map candidate_in c.as_slice.result.now ≡ map candidate_view c.args.candidates.now = ap (map candidate_in) c.as_slice.ensures.value ∙ c.in_ok-users.ensures in
    IfOk-weaker c.clashes_of.result _ _ (λ found a. a ∙ ap (λ (l : List Candidate). each_once (uses_of_all (without_clashes l found.answers.items))) all) c.clashes_of.ensures.uses

pub returns-clause-beside : goal.returns-clause-beside
returns-clause-beside c =
    let all : map candidate_in c.as_slice.result.now ≡ map candidate_view c.args.candidates.now = ap (map candidate_in) c.as_slice.ensures.value ∙ c.in_ok-users.ensures in
    let others : map candidate_in c.as_slice-2.result.now ≡ map candidate_view c.args.others.now = ap (map candidate_in) c.as_slice-2.ensures.value ∙ c.in_ok-others.ensures in
    IfOk-weaker c.clashes_of.result _ _ (λ found a. subst (λ (l : List Candidate). AreAnswers l (map candidate_view c.args.others.now) found.beside.items) all
    (subst (λ (l : List Candidate). AreAnswers (map candidate_in c.as_slice.result.now) l found.beside.items) others a)) c.clashes_of.ensures.beside
