-- By what is answered of modules: those that clash with none of those that are selected are those that are selected.
use Rattle.std.proofs.Common.{◌≡◌, inl, inr, Bool, true, false, cond, List, [], ◌∷◌, filter, length, refl, sym, ap, ◌∙◌, Some}
use Rattle.std.proofs.Common.{None, Option}
use Rattle.audit_certificate.specs.Candidates.{Candidate}
use Rattle.audit_certificate.specs.RecordUses.{IsAmong}
use Rattle.audit_certificate.specs.Steps.{IsConsistent}
use Rattle.audit_certificate.specs.Certificates.{is_selected, selected, certified, IsCertified}
use Rattle.audit_certificate.specs.ClashAnswers.{ClashesWithNone, AreAnswers, without_clashes}
use Rattle.audit_certificate.specs.declared.answers.Clash.{Clash}
use Rattle.audit_certificate.proofs.UsedLemmas.{by_test}
use Rattle.audit_certificate.proofs.Exact.{filtered, in_filter, clashes, to_clashes}
use Rattle.audit_certificate.proofs.Staying.{staying_apart, staying_most}
use Rattle.audit_certificate.proofs.CertifiedOnes.{to_certified, certified_most}

-- a consistent module that clashes with no certified one is certified
pub answered_none : (ms : List Candidate) (m : Candidate) → IsAmong m ms → IsConsistent m → ClashesWithNone (certified ms) m → IsCertified ms m
answered_none ms m a s none = certified_most ms m a s (λ n v x y c o k. none n v x y (to_certified ms n c) o k)

-- those whose answers are that they clash with none
pub answers_are : (all ms : List Candidate) (answers : List (Option Clash)) → ((m : Candidate) → IsAmong m ms → IsAmong m all) → AreAnswers all ms answers
    → without_clashes ms answers ≡ filter (is_selected (length all) all) ms
answers_are all [] [] within h = refl
answers_are all [] (a ∷ answers) within h = absurd h
answers_are all (m ∷ ms) [] within h = absurd h
answers_are all (m ∷ ms) (None ∷ answers) within h =
    let there : IsAmong m (selected all) = staying_most all m (within m (inl refl)) (λ n a o c. let k = clashes m n c in h.0 n k.variable k.one k.other a o k.clash) in
    let t : is_selected (length all) all m ≡ true = (filtered (is_selected (length all) all) all m there).1 in
    ap (λ (l : List Candidate). m ∷ l) (answers_are all ms answers (λ n a. within n (inr a)) h.1)
    ∙ sym (ap (λ (b : Bool). cond b (m ∷ filter (is_selected (length all) all) ms) (filter (is_selected (length all) all) ms)) t)
answers_are all (m ∷ ms) (Some clash ∷ answers) within h =
    let c = h.0.0 in
    let f : is_selected (length all) all m ≡ false = by_test (is_selected (length all) all m) _
    (λ t. absurd (staying_apart all m c.other (in_filter (is_selected (length all) all) all m (within m (inl refl)) t) c.listed c.another (to_clashes m c.other _ _ _ c.clash)))
    (λ f. f) in
    answers_are all ms answers (λ n a. within n (inr a)) h.1
    ∙ sym (ap (λ (b : Bool). cond b (m ∷ filter (is_selected (length all) all) ms) (filter (is_selected (length all) all) ms)) f)
