-- Each module of a site has a standing: the tests of the certificate find it. It stands as certified where it is.
use Rattle.std.proofs.Common.{◌≡◌, inl, inr, Bool, true, false, cond, not, ◌&&◌, ◌||◌, List, [], ◌∷◌, find, Some}
use Rattle.std.proofs.Common.{Result, Ok, Err, refl, sym, ◌∙◌, subst}
use Rattle.std.specs.Prelude.{bytes_eq}
use Rattle.std.specs.List.{list_all, list_any}
use Rattle.std.proofs.lemmas.Bool.{false≢true, and_parts, and_from, and_cases}
use Rattle.envvars.specs.Texts.{Text}
use Rattle.envvars.specs.Fields.{colon}
use Rattle.envvars.proofs.TextLemmas.{same_text}
use Rattle.modulefile.specs.Laws as files
use Rattle.reversal.specs.VariableUses.{VariableUse, Pathed, can_return, UsedVariable}
use Rattle.requests.specs.Reasons.{RequestReason}
use Rattle.audit_laws.specs.determinism.Contexts.{FileRuns, are_runs_equivalent, has_stable_answer, have_stable_answers, is_deterministic}
use Rattle.audit_certificate.specs.RecordUses.{IsAmong, modulepath, is_read, same_use, is_same_use}
use Rattle.audit_certificate.specs.Candidates.{Candidate, uses_of}
use Rattle.audit_certificate.specs.Steps.{are_consistent, is_consistent, IsConsistent}
use Rattle.audit_certificate.specs.Clashes.{is_other, do_clash}
use Rattle.audit_certificate.specs.Certificates.{certified, IsCertified}
use Rattle.audit_certificate.specs.Laws.{CertifiedAreExact}
use Rattle.audit_certificate.proofs.UsedLemmas.{by_test, by_cases}
use Rattle.audit_certificate.proofs.Exact.{any_some, consistent, clashes, to_clashes}
use Rattle.audit_certificate.proofs.CertifiedOnes.{is_certified, to_certified, certified_most}
use Rattle.audit_certificate.proofs.Members.{fails_each}
use Rattle.audit_laws.specs.site.Sites.{Site, SiteModule, candidate_of, EvaluatesTo, IsOfSite, AreDeterministicModules}
use Rattle.audit_laws.specs.site.Standings.{Standing, Certified, Unstable, OneWay, Inconsistent, Clashes, Refused}
use Rattle.audit_laws.specs.site.Standings.{IsUsedTwice, ClashesWith, HasStanding}
use Rattle.audit_laws.specs.site.Laws.{EachStands, CertifiedStand}
use Rattle.audit_laws.proofs.site.Evaluations.{some_outcome}

-- tests

some_fails : {X : Type 0} (p : X → Bool) (xs : List X) → list_all p xs ≡ false → (x : X) × IsAmong x xs × (p x ≡ false)
some_fails p [] h = absurd (false≢true (sym h))
some_fails p (y ∷ xs) h = by_cases (and_cases (p y) (list_all p xs) h)
    (λ f. (y, inl refl, f))
    (λ f. let i = some_fails p xs f in (i.0, inr i.1, i.2))

fails_at : {X : Type 0} (p : X → Bool) (y : X) (xs : List X) (b : Bool) → (b && list_all p xs) ≡ false → (list_all p xs ≡ false → (x : X) × (find (λ z. not (p z)) xs ≡ Some x))
    → (x : X) × (cond (not b) (Some y) (find (λ z. not (p z)) xs) ≡ Some x)
fails_at p y xs true h more = more h
fails_at p y xs false h more = (y, refl)

first_that_fails : {X : Type 0} (p : X → Bool) (xs : List X) → list_all p xs ≡ false → (x : X) × (find (λ z. not (p z)) xs ≡ Some x)
first_that_fails p [] h = absurd (false≢true (sym h))
first_that_fails p (y ∷ xs) h = fails_at p y xs (p y) h (first_that_fails p xs)

-- consistent, or not

unlike : (r b s : Bool) → (r || (not b || s)) ≡ false → (r ≡ false) × (b ≡ true) × (s ≡ false)
unlike true b s h = absurd (false≢true (sym h))
unlike false true s h = (refl, refl, h)
unlike false false s h = absurd (false≢true (sym h))

used_twice : (ps : List UsedVariable) (p q : UsedVariable) → IsAmong p ps → IsAmong q ((modulepath, Pathed colon) ∷ ps) → is_same_use p q ≡ false → (v : Text) × (x : VariableUse)
    × (y : VariableUse) × IsUsedTwice ps v x y
used_twice ps p q a b h =
    let u = unlike (is_read p.1) (bytes_eq p.0 q.0) (same_use p.1 q.1) h in
    let name : p.0 ≡ q.0 = same_text p.0 q.0 u.1 in
    (p.0, p.1, q.1, record { first = a; used = u.0; second = subst (λ (v : Text). IsAmong (v, q.1) ((modulepath, Pathed colon) ∷ ps)) (sym name) b; differ = u.2 })

out_of_step : (ps : List UsedVariable) → are_consistent ps ≡ false → (v : Text) × (x : VariableUse) × (y : VariableUse) × IsUsedTwice ps v x y
out_of_step ps h =
    let p = some_fails (λ p. is_same_use p (modulepath, Pathed colon) && list_all (is_same_use p) ps) ps h in
    by_cases (and_cases (is_same_use p.0 (modulepath, Pathed colon)) (list_all (is_same_use p.0) ps) p.2)
    (λ f. used_twice ps p.0 (modulepath, Pathed colon) p.1 (inl refl) f)
    (λ f. let q = some_fails (is_same_use p.0) ps f in used_twice ps p.0 q.0 p.1 (inr q.1) q.2)

-- a clash that the test finds

clash : (ms : List Candidate) (m : Candidate) → IsConsistent m → list_any (λ n. is_other m n && do_clash m n) (certified ms) ≡ true
    → (v : Text) × (x : VariableUse) × (y : VariableUse) × (n : Candidate) × ClashesWith ms m v x y n
clash ms m s h =
    let n = any_some (λ n. is_other m n && do_clash m n) (certified ms) h in
    let b = and_parts (is_other m n.0) (do_clash m n.0) n.2 in
    let k = clashes m n.0 b.1 in
    (k.variable, k.one, k.other, n.0, record { consistent = s; certain = is_certified ms n.0 n.1; another = b.0; clash = k.clash })

-- and none that it finds
no_clash : (ms : List Candidate) (m : Candidate) → IsAmong m ms → IsConsistent m → list_any (λ n. is_other m n && do_clash m n) (certified ms) ≡ false → IsCertified ms m
no_clash ms m a s h = certified_most ms m a s (λ n v x y c o k. false≢true (sym (fails_each (λ l. is_other m l && do_clash m l) (certified ms) n h (to_certified ms n c))
    ∙ and_from (is_other m n) (do_clash m n) o (to_clashes m n v x y k)))

-- standings

abbrev Stands : Site → List Candidate → SiteModule → Type 0
Stands site ms m = (standing : Standing) × HasStanding site ms m standing

deterministic_stands : (site : Site) (ms : List Candidate) (m : SiteModule) (runs : FileRuns RequestReason) → AreDeterministicModules site ms
    → IsOfSite site m → EvaluatesTo site m (Ok runs) → have_stable_answers runs ≡ true → list_all can_return runs.first.records ≡ true → Stands site ms m
deterministic_stands site ms m runs all of_site h kept returns =
    let n : Candidate = candidate_of m runs in
    let deterministic : is_deterministic runs ≡ true = and_from (have_stable_answers runs) (list_all can_return runs.first.records) kept returns in
    let listed : IsAmong n ms = (all n).1 (record {
      of_site = of_site;
      records = record { runs = runs; evaluated = h; deterministic = deterministic; records = refl };
      reads = refl;
    }) in
    by_test (are_consistent (uses_of n)) _
    (λ t. let s : is_consistent n ≡ true = and_from (list_all can_return n.records) (are_consistent (uses_of n)) returns t in
    by_test (list_any (λ k. is_other n k && do_clash n k) (certified ms)) _
    (λ c. let k = clash ms n (consistent n s) c in (Clashes k.0 k.1 k.2 k.3, (runs, h, deterministic, k.4)))
    (λ c. (Certified, (runs, h, deterministic, no_clash ms n listed (consistent n s) c))))
    (λ f. let k = out_of_step (uses_of n) f in (Inconsistent k.0 k.1 k.2, (runs, h, deterministic, k.3)))

evaluated_stands : (site : Site) (ms : List Candidate) (m : SiteModule) (o : Result (FileRuns RequestReason) RequestReason)
    → AreDeterministicModules site ms → IsOfSite site m → EvaluatesTo site m o → Stands site ms m
evaluated_stands site ms m (Ok runs) all of_site h =
    by_test (have_stable_answers runs) _
    (λ k. by_test (list_all can_return runs.first.records) _
    (λ t. deterministic_stands site ms m runs all of_site h k t)
    (λ g. let r = first_that_fails can_return runs.first.records g in (OneWay r.0, (runs, h, k, r.1))))
    (λ f. let q = first_that_fails (has_stable_answer (are_runs_equivalent runs) runs.first.records) runs.first.asked f in (Unstable q.0, (runs, h, q.1)))
evaluated_stands site ms m (Err reason) all of_site h = (Refused reason, h)

pub each_stands : files.SomeOutcome → EachStands
each_stands runs site ms m all of_site = let o = some_outcome runs site m in evaluated_stands site ms m o.0 all of_site o.1

pub certified_stand : CertifiedAreExact → CertifiedStand
certified_stand exact site ms m = (
  (λ h. (h.0, h.1, h.2, (exact ms (candidate_of m h.0)).1 h.3)),
  (λ h. (h.0, h.1, h.2, (exact ms (candidate_of m h.0)).0 h.3)),
)
