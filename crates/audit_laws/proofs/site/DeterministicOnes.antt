-- The deterministic modules of a site, by the outcomes of its evaluations.
use Rattle.std.proofs.Common.{◌≡◌, inl, inr, Bool, true, false, cond, List, [], ◌∷◌, map, Some, None, Result, Ok, Err}
use Rattle.std.proofs.Common.{refl, ap, sym, ◌∙◌, subst}
use Rattle.std.specs.Prelude.{filter_map}
use Rattle.modulefile.specs.Laws as files
use Rattle.requests.specs.Reasons.{RequestReason}
use Rattle.audit_laws.specs.determinism.Contexts.{FileRuns, is_deterministic}
use Rattle.audit_certificate.specs.RecordUses.{IsAmong}
use Rattle.audit_certificate.specs.Candidates.{Candidate}
use Rattle.audit_certificate.proofs.UsedLemmas.{by_cases, cons_first, cons_later, cons_either}
use Rattle.audit_laws.specs.site.Sites.{Site, SiteModule, candidate_file, candidate_of, EvaluatesTo, IsOfSite, IsDeterministicModule}
use Rattle.audit_laws.specs.site.Sites.{Evaluated, deterministic_of, AreEvaluated}
use Rattle.audit_laws.specs.site.Laws.{DeterministicModulesFound}
use Rattle.audit_laws.proofs.site.Evaluations.{one_outcome}

-- what the evaluations of a file leave, or why the first is refused
abbrev Outcome : Type 0
Outcome = Result (FileRuns RequestReason) RequestReason

-- members of a list that is filtered

kept : (m : Candidate) (outcomes : List Evaluated) → IsAmong m (filter_map deterministic_of outcomes) → (p : Evaluated) × IsAmong p outcomes × (deterministic_of p ≡ Some m)
kept m [] a = absurd a
kept m (p ∷ outcomes) a = by_cases (cons_either m (deterministic_of p) (filter_map deterministic_of outcomes) a)
    (λ e. (p, inl refl, e))
    (λ b. let i = kept m outcomes b in (i.0, inr i.1, i.2))

keeps : (m : Candidate) (p : Evaluated) (outcomes : List Evaluated) → IsAmong p outcomes → deterministic_of p ≡ Some m → IsAmong m (filter_map deterministic_of outcomes)
keeps m p [] a e = absurd a
keeps m p (q ∷ outcomes) (inl same) e = cons_first m (deterministic_of q) (filter_map deterministic_of outcomes) (ap deterministic_of (sym same) ∙ e)
keeps m p (q ∷ outcomes) (inr a) e = cons_later m (deterministic_of q) (filter_map deterministic_of outcomes) (keeps m p outcomes a e)

in_map : (p : Evaluated) (outcomes : List Evaluated) → IsAmong p outcomes → IsAmong p.0 (map (λ (outcome : Evaluated). outcome.0) outcomes)
in_map p [] a = absurd a
in_map p (q ∷ outcomes) (inl e) = inl (ap (λ (x : Evaluated). x.0) e)
in_map p (q ∷ outcomes) (inr a) = inr (in_map p outcomes a)

of_map : (m : SiteModule) (outcomes : List Evaluated) → IsAmong m (map (λ (outcome : Evaluated). outcome.0) outcomes) → (p : Evaluated) × IsAmong p outcomes × (p.0 ≡ m)
of_map m [] a = absurd a
of_map m (q ∷ outcomes) (inl e) = (q, inl refl, sym e)
of_map m (q ∷ outcomes) (inr a) = let i = of_map m outcomes a in (i.0, inr i.1, i.2)

-- a module that is deterministic by its outcome

same_module : (m n : Candidate) → Some m ≡ Some n → m ≡ n
same_module m n e = cc

by_deterministic : (b : Bool) (m n : Candidate) → cond b (Some m) None ≡ Some n → (b ≡ true) × (m ≡ n)
by_deterministic true m n e = (refl, same_module m n e)
by_deterministic false m n e = absurd (cc)

-- the module, where its outcome says that it is deterministic
pub record IsOfOutcome (site : Site) (m : SiteModule) (o : Outcome) (n : Candidate) : Type 0 where
  pub runs : FileRuns RequestReason
  pub outcome : o ≡ Ok runs
  pub deterministic : is_deterministic runs ≡ true
  pub is : candidate_of m runs ≡ n

outcome_deterministic : (site : Site) (m : SiteModule) (o : Outcome) (n : Candidate) → deterministic_of (m, o) ≡ Some n → IsOfOutcome site m o n
outcome_deterministic site m (Err reason) n e = absurd (cc)
outcome_deterministic site m (Ok runs) n e =
    let s = by_deterministic (is_deterministic runs) (candidate_of m runs) n e in record { runs = runs; outcome = refl; deterministic = s.0; is = s.1 }

is_module : (site : Site) (m : SiteModule) (runs : FileRuns RequestReason) → IsOfSite site m → EvaluatesTo site m (Ok runs) → is_deterministic runs ≡ true → IsDeterministicModule site (candidate_of m runs)
is_module site m runs of h s = record {
  of_site = of;
  records = record { runs = runs; evaluated = h; deterministic = s; records = refl };
  reads = refl;
}

module_of : files.OneOutcome → (site : Site) (n : Candidate) (m : SiteModule) (o : Outcome)
    → m ≡ candidate_file n → IsDeterministicModule site n → EvaluatesTo site m o → deterministic_of (m, o) ≡ Some n
module_of one site n m o same s h =
    let p = s.records in
    let out : o ≡ Ok p.runs = one_outcome one site (candidate_file n) o (Ok p.runs) (subst (λ (k : SiteModule). EvaluatesTo site k o) same h) p.evaluated in
    let is : candidate_of (candidate_file n) p.runs ≡ n = λ i. record { name = n.name; path = n.path; records = sym p.records i; reads = sym s.reads i } in
    ap (λ (k : SiteModule). deterministic_of (k, o)) same ∙ (ap (λ (x : Outcome). deterministic_of (candidate_file n, x)) out
    ∙ (ap (λ (b : Bool). cond b (Some (candidate_of (candidate_file n) p.runs)) None) p.deterministic
    ∙ ap (λ (k : Candidate). Some k) is))

deterministic_by : (site : Site) (outcomes : List Evaluated) (p : Evaluated) (n : Candidate) → AreEvaluated site outcomes → IsAmong p outcomes → deterministic_of p ≡ Some n
    → IsDeterministicModule site n
deterministic_by site outcomes p n all a e =
    let o = outcome_deterministic site p.0 p.1 n e in
    subst (IsDeterministicModule site) o.is
    (is_module site p.0 o.runs ((all.modules p.0).0 (in_map p outcomes a)) (subst (EvaluatesTo site p.0) o.outcome (all.evaluated p a)) o.deterministic)

-- its outcome
outcome_of : files.OneOutcome → (site : Site) (outcomes : List Evaluated) (n : Candidate) → AreEvaluated site outcomes → IsDeterministicModule site n
    → (p : Evaluated) × IsAmong p outcomes × (deterministic_of p ≡ Some n)
outcome_of one site outcomes n all s =
    let p = of_map (candidate_file n) outcomes ((all.modules (candidate_file n)).1 s.of_site) in
    (p.0, p.1, module_of one site n p.0.0 p.0.1 p.2 s (all.evaluated p.0 p.1))

pub deterministic_modules_found : files.OneOutcome → DeterministicModulesFound
deterministic_modules_found one site outcomes all n = (
  (λ a. let p = kept n outcomes a in deterministic_by site outcomes p.0 n all p.1 p.2),
  (λ s. let p = outcome_of one site outcomes n all s in keeps n p.0 outcomes p.1 p.2),
)
