-- A module of a site stands in one way alone.
use Rattle.std.proofs.Common.{◌≡◌, ℕ, ◌==◌, inl, inr, Bool, true, false, cond, not, ◌&&◌, List, [], ◌∷◌, find, Some, Result, Ok}
use Rattle.std.proofs.Common.{Err, refl, ap, sym, ◌∙◌, subst}
use Rattle.std.specs.List.{list_all}
use Rattle.std.proofs.lemmas.Bool.{false≢true, and_parts, eq-eqb}
use Rattle.envvars.specs.Texts.{Text}
use Rattle.envvars.specs.Fields.{colon}
use Rattle.modulefile.specs.Laws as files
use Rattle.reversal.specs.VariableUses.{VariableUse, Pathed, can_return, UsedVariable}
use Rattle.requests.specs.Reasons.{RequestReason}
use Rattle.audit_laws.specs.determinism.Contexts.{FileRuns, are_runs_equivalent, has_stable_answer, have_stable_answers}
use Rattle.audit_certificate.specs.RecordUses.{IsAmong, modulepath, same_use}
use Rattle.audit_certificate.specs.Candidates.{Candidate, uses_of}
use Rattle.audit_certificate.specs.Steps.{AreConsistent}
use Rattle.audit_certificate.specs.Certificates.{IsCertified}
use Rattle.audit_certificate.proofs.Exact.{use_itself}
use Rattle.audit_certificate.proofs.CertifiedOnes.{certified_apart}
use Rattle.audit_laws.specs.site.Sites.{Site, SiteModule, EvaluatesTo, candidate_of}
use Rattle.audit_laws.specs.site.Standings.{Standing, Certified, Unstable, OneWay, Inconsistent, Clashes, Refused}
use Rattle.audit_laws.specs.site.Standings.{IsUsedTwice, ClashesWith, IsDeterministicAnd, HasStanding, standing_word}
use Rattle.audit_laws.specs.site.Laws.{OneStanding}
use Rattle.audit_laws.proofs.site.Evaluations.{one_outcome, same_runs}

-- what a standing says of the outcome: refused 0, deterministic 1, each question has a stable answer but a record is
-- one-way 2, and else 3

abbrev Outcome : Type 0
Outcome = Result (FileRuns RequestReason) RequestReason

abbrev seen : Outcome → ℕ
seen (Ok runs) = cond (have_stable_answers runs) (cond (list_all can_return runs.first.records) 1 2) 3
seen (Err reason) = 0

abbrev said : Standing → ℕ
said Certified = 1
said (Unstable q) = 3
said (OneWay r) = 2
said (Inconsistent v x y) = 1
said (Clashes v x y n) = 1
said (Refused reason) = 0

found_at : {X : Type 0} (p : X → Bool) (y x : X) (xs : List X) (b : Bool) → cond (not b) (Some y) (find (λ z. not (p z)) xs) ≡ Some x
    → (find (λ z. not (p z)) xs ≡ Some x → list_all p xs ≡ false) → (b && list_all p xs) ≡ false
found_at p y x xs true h more = more h
found_at p y x xs false h more = refl

-- where one fails, not all pass
not_all : {X : Type 0} (p : X → Bool) (xs : List X) (x : X) → find (λ z. not (p z)) xs ≡ Some x → list_all p xs ≡ false
not_all p [] x h = absurd (cc)
not_all p (y ∷ xs) x h = found_at p y x xs (p y) h (not_all p xs x)

abbrev Says : Site → SiteModule → Standing → Type 0
Says site m s = (o : Outcome) × EvaluatesTo site m o × (seen o ≡ said s)

of_deterministic : (site : Site) (m : SiteModule) (P : Candidate → Type 0) → IsDeterministicAnd site m P → Says site m Certified
of_deterministic site m P (runs, h, deterministic, p) =
    let k = and_parts (have_stable_answers runs) (list_all can_return runs.first.records) deterministic in
    (Ok runs, h, rw (k.0, k.1) refl)

says : (site : Site) (ms : List Candidate) (m : SiteModule) (s : Standing) → HasStanding site ms m s → Says site m s
says site ms m Certified h = of_deterministic site m (IsCertified ms) h
says site ms m (Unstable q) (runs, h, first) =
    (Ok runs, h, rw (not_all (has_stable_answer (are_runs_equivalent runs) runs.first.records) runs.first.asked q first) refl)
says site ms m (OneWay r) (runs, h, kept, first) = (Ok runs, h, rw (kept, not_all can_return runs.first.records r first) refl)
says site ms m (Inconsistent v x y) h = of_deterministic site m (λ c. IsUsedTwice (uses_of c) v x y) h
says site ms m (Clashes v x y n) h = of_deterministic site m (λ c. ClashesWith ms c v x y n) h
says site ms m (Refused reason) h = (Err reason, h, refl)

same_said : files.OneOutcome → (site : Site) (ms : List Candidate) (m : SiteModule) (s t : Standing) → HasStanding site ms m s → HasStanding site ms m t → said s ≡ said t
same_said one site ms m s t h k =
    let a = says site ms m s h in
    let b = says site ms m t k in
    sym a.2 ∙ (ap seen (one_outcome one site m a.0 b.0 a.1 b.1) ∙ b.2)

-- consistent and inconsistent

not_alike : (x y : VariableUse) → same_use x y ≡ false → x ≡ y → ⊥
not_alike x y h e = false≢true (sym h ∙ (ap (same_use x) (sym e) ∙ use_itself x))

not_both : (ps : List UsedVariable) (v : Text) (x y : VariableUse) → IsUsedTwice ps v x y → AreConsistent ps → ⊥
not_both ps v x y u s = by_second u.second
  where
    by_second : IsAmong (v, y) ((modulepath, Pathed colon) ∷ ps) → ⊥
    by_second (inl e) =
        let name : v ≡ modulepath = ap (λ p. p.0) e in
        let other : y ≡ Pathed colon = ap (λ p. p.1) e in
        not_alike x y u.differ (s.modulepath x (subst (λ (w : Text). IsAmong (w, x) ps) name u.first) u.used ∙ sym other)
    by_second (inr a) = not_alike x y u.differ (s.one_use v x y u.first a)

-- one module is one candidate
same_candidate : files.OneOutcome → (site : Site) (m : SiteModule) (runs more : FileRuns RequestReason) → EvaluatesTo site m (Ok runs) → EvaluatesTo site m (Ok more) → candidate_of m more ≡ candidate_of m runs
same_candidate one site m runs more h k = ap (candidate_of m) (same_runs one site m runs more h k)

certified_not_twice : files.OneOutcome → (site : Site) (ms : List Candidate) (m : SiteModule) (v : Text)
    (x y : VariableUse) → HasStanding site ms m Certified → HasStanding site ms m (Inconsistent v x y) → ⊥
certified_not_twice one site ms m v x y (runs, h, s, c) (more, k, t, u) =
    not_both (uses_of (candidate_of m runs)) v x y (subst (λ (n : Candidate). IsUsedTwice (uses_of n) v x y) (same_candidate one site m runs more h k) u) c.consistent.consistent

certified_not_clash : files.OneOutcome → (site : Site) (ms : List Candidate) (m : SiteModule) (v : Text)
    (x y : VariableUse) (n : Candidate) → HasStanding site ms m Certified → HasStanding site ms m (Clashes v x y n) → ⊥
certified_not_clash one site ms m v x y n (runs, h, s, c) (more, k, t, u) =
    let w : ClashesWith ms (candidate_of m runs) v x y n = subst (λ (l : Candidate). ClashesWith ms l v x y n) (same_candidate one site m runs more h k) u in
    certified_apart ms (candidate_of m runs) n v x y c w.certain w.another w.clash

twice_not_clash : files.OneOutcome → (site : Site) (ms : List Candidate) (m : SiteModule) (v w : Text)
    (x y a b : VariableUse) (n : Candidate) → HasStanding site ms m (Inconsistent v x y)
    → HasStanding site ms m (Clashes w a b n) → ⊥
twice_not_clash one site ms m v w x y a b n (runs, h, s, u) (more, k, t, q) =
    let c : ClashesWith ms (candidate_of m runs) w a b n = subst (λ (l : Candidate). ClashesWith ms l w a b n) (same_candidate one site m runs more h k) q in
    not_both (uses_of (candidate_of m runs)) v x y u c.consistent.consistent

-- all of them

apart : (s t : Standing) → (said s == said t) ≡ false → said s ≡ said t → ⊥
apart s t f e = false≢true (sym f ∙ (ap (λ x. said s == x) (sym e) ∙ eq-eqb (said s) (said s) refl))

by_said : files.OneOutcome → (site : Site) (ms : List Candidate) (m : SiteModule) (s t : Standing) → said s ≡ said t
    → HasStanding site ms m s → HasStanding site ms m t → standing_word s ≡ standing_word t
by_said one site ms m Certified Certified e h k = refl
by_said one site ms m Certified (Inconsistent v x y) e h k = absurd (certified_not_twice one site ms m v x y h k)
by_said one site ms m Certified (Clashes v x y n) e h k = absurd (certified_not_clash one site ms m v x y n h k)
by_said one site ms m (Inconsistent v x y) Certified e h k = absurd (certified_not_twice one site ms m v x y k h)
by_said one site ms m (Inconsistent v x y) (Inconsistent w a b) e h k = refl
by_said one site ms m (Inconsistent v x y) (Clashes w a b n) e h k = absurd (twice_not_clash one site ms m v w x y a b n h k)
by_said one site ms m (Clashes v x y n) Certified e h k = absurd (certified_not_clash one site ms m v x y n k h)
by_said one site ms m (Clashes v x y n) (Inconsistent w a b) e h k = absurd (twice_not_clash one site ms m w v a b x y n k h)
by_said one site ms m (Clashes v x y n) (Clashes w a b l) e h k = refl
by_said one site ms m (Unstable q) (Unstable p) e h k = refl
by_said one site ms m (OneWay r) (OneWay q) e h k = refl
by_said one site ms m (Refused r) (Refused q) e h k = refl
by_said one site ms m s t e h k = absurd (apart s t refl e)

pub one_standing : files.OneOutcome → OneStanding
one_standing one site ms m s t h k = by_said one site ms m s t (same_said one site ms m s t h k) h k
