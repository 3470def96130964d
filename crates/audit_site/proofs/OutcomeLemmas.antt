-- Outcomes of evaluations over a tree, by what their parts answered.
use Rattle.std.proofs.Common.{◌≡◌, true, false, List, [], ◌∷◌, Result, Ok, Err, IfErr, String, Global, refl, ap, sym, subst}
use Rattle.std.specs.declared.vec.Vec.{Vec}
use Rattle.envvars.specs.Texts.{Text, texts_in}
use Rattle.envvars.specs.Fields.{without_repeats}
use Rattle.envvars.specs.Environment.{Environment}
use Rattle.filetree.specs.Agreement.{Files, Listings, InEachPair}
use Rattle.filetree.specs.Causes.{Cause, Applies, memory, device, because}
use Rattle.filetree.specs.Modulefiles.{modulefile}
use Rattle.tclrules.specs.declared.limits.Limits.{Limits}
use Rattle.modulefile.specs.Answers.{FileContext}
use Rattle.modulefile.specs.Files as runs
use Rattle.requests.specs.Reasons.{RequestReason}
use Rattle.requests.specs.Steps.{consistent, script_at}
use Rattle.modules.specs.declared.refusal.Refusal.{Refusal}
use Rattle.modules.specs.Answers.{cause_of}
use Rattle.modules.proofs.StepLemmas.{stands_as}
use Rattle.audit_laws.specs.determinism.Contexts.{EvaluationContext, first_context, other_contexts, FileRuns, reads_in}
use Rattle.audit_laws.specs.site.Sites.{SiteModule, EvaluatesBy, EvaluateBy, EvaluatesTo, site_of}
use Rattle.modules.specs.transient_failures.Causes.{is_transient}
use Rattle.audit_site.specs.Walks.{IsOutcome, IsEvaluation}
use Rattle.audit_site.specs.WalkParts.{HasLoaded, site_context, ScriptRuns, ScriptRunsIn, ShowsScript, ComesToOverTree, GivesUp}
use Rattle.audit_site.specs.WalkParts.{IsEvaluationWith}
use Rattle.audit_site.specs.declared.scripts.FileEvaluation.{FileEvaluation}
use Rattle.audit_site.specs.declared.walk.EvaluatedFile.{EvaluatedFile}
use Rattle.audit_site.specs.declared.walk.Evaluation.{Evaluation}

module _ (limits : Limits) (env : Environment) (loaded : HasLoaded env) (m : SiteModule) where
  -- the script in the module's file
  abbrev pub ReadsScript : Files → Listings → Result Text RequestReason → Type 0
  ReadsScript files listings o = o ≡ script_at m.path (modulefile (files m.path))

  -- the context of a way
  abbrev pub context : EvaluationContext → FileContext
  context way = site_context way m.name m.path env

  -- an outcome of the script is one of the module
  pub evaluated : (way : EvaluationContext) (files : Files) (listings : Listings) (text : Text) (o : Result runs.Ran RequestReason) → ReadsScript files listings (Ok text)
      → ScriptRuns limits (context way) text o → EvaluatesBy (site_of limits env files listings) way m o
  evaluated way files listings text o read ran = (Ok loaded.0, ap consistent (sym loaded.1), (Ok text, read, ran))

  others : (files : Files) (listings : Listings) (text : Text) (ways : List EvaluationContext) (os : List (Result runs.Ran RequestReason)) → ReadsScript files listings (Ok text)
      → ScriptRunsIn limits context text ways os → EvaluateBy (site_of limits env files listings) m ways os
  others files listings text [] [] read h = tt
  others files listings text [] (o ∷ os) read h = absurd h
  others files listings text (way ∷ ways) [] read h = absurd h
  others files listings text (way ∷ ways) (o ∷ os) read h = (evaluated way files listings text o read h.0, others files listings text ways os read h.1)

  -- a reason against the file is one of the module
  pub unread : (files : Files) (listings : Listings) (r : RequestReason) → ReadsScript files listings (Err r) → EvaluatesTo (site_of limits env files listings) m (Err r)
  unread files listings r read = (Ok loaded.0, ap consistent (sym loaded.1), (Err r, read, refl))

  -- what a script shows, over the tree
  pub script_comes : (agrees : Files → Listings → Type 0) (failed : Type 0) (text : Text) (o : Result FileEvaluation Refusal) → InEachPair agrees (λ files listings. ReadsScript files listings (Ok text))
      → ShowsScript limits context text o
      → ComesToOverTree agrees failed o (λ files listings. EvaluatesTo (site_of limits env files listings) m)
  script_comes agrees failed text (Ok shown) read (runs, of, reads, first, more) = (
    runs,
    of,
    reads,
    λ files listings a. (evaluated first_context files listings text (Ok runs.first) (read files listings a) first, others files listings text (other_contexts runs.first.asked) runs.others (read files listings a) more),
  )
  script_comes agrees failed text (Err refusal) read h =
      stands_as (cause_of refusal) ⊥ failed
      (λ r. ScriptRuns limits (context first_context) text (Err r))
      (λ r. InEachPair agrees (λ files listings. EvaluatesTo (site_of limits env files listings) m (Err r)))
      (λ q. absurd q) (λ r k files listings a. evaluated first_context files listings text (Err r) (read files listings a) k) h

  pub unread_comes : (agrees : Files → Listings → Type 0) (failed : Type 0) (refusal : Refusal)
      → Applies (cause_of refusal) failed (λ r. InEachPair agrees (λ files listings. ReadsScript files listings (Err r)))
      → ComesToOverTree agrees failed (Err refusal) (λ files listings. EvaluatesTo (site_of limits env files listings) m)
  unread_comes agrees failed refusal h =
      stands_as (cause_of refusal) failed failed
      (λ r. InEachPair agrees (λ files listings. ReadsScript files listings (Err r)))
      (λ r. InEachPair agrees (λ files listings. EvaluatesTo (site_of limits env files listings) m (Err r)))
      (λ q. q) (λ r k files listings a. unread files listings r (k files listings a)) h

-- ---- outcomes that say something of the file, and others

abbrev Outcome : Type 0
Outcome = Result (FileRuns RequestReason) RequestReason

by_cause : (c : Cause RequestReason) (agrees : Files → Listings → Type 0) (failed : Type 0) (Outcomes : Files → Listings → Outcome → Type 0) → is_transient c ≡ false
    → Applies c failed (λ r. InEachPair agrees (λ files listings. Outcomes files listings (Err r)))
    → (reason : RequestReason) × (c ≡ because reason) × InEachPair agrees (λ files listings. Outcomes files listings (Err reason))
by_cause memory agrees failed Outcomes k h = absurd (cc)
by_cause device agrees failed Outcomes k h = absurd (cc)
by_cause (because reason) agrees failed Outcomes k h = (reason, refl, h)

-- what the code has of a module whose evaluations aren't given up stands for an outcome of the definitions
pub is_evaluation : (agrees : Files → Listings → Type 0) (failed : Type 0) (Outcomes : Files → Listings → Outcome → Type 0) (m : SiteModule) (o : Result FileEvaluation Refusal) (e : Evaluation)
    → ComesToOverTree agrees failed o Outcomes → IfErr o (λ refusal. is_transient (cause_of refusal) ≡ false) → IsEvaluationWith m.name m.path o e
    → InEachPair agrees (λ files listings. (outcome : Outcome) × Outcomes files listings outcome × IsEvaluation e (m, outcome))
is_evaluation agrees failed Outcomes m (Ok shown) e (runs, of, reads, each) kept (name, path, out, read) = λ files listings a. (
  Ok runs,
  each files listings a,
  record {
    name = sym name;
    path = sym path;
    outcome = subst (λ (x : Result EvaluatedFile Refusal). IsOutcome x (Ok runs)) (sym out) (runs, refl, of);
    reads = subst (λ (x : Vec (String Global) Global). texts_in x ≡ without_repeats (reads_in runs)) (sym read) reads;
  },
)
is_evaluation agrees failed Outcomes m (Err refusal) e h kept (name, path, out, read) =
    let p = by_cause (cause_of refusal) agrees failed Outcomes kept h in
    λ files listings a. (
      Err p.0,
      p.2 files listings a,
      record {
        name = sym name;
        path = sym path;
        outcome = subst (λ (x : Result EvaluatedFile Refusal). IsOutcome x (Err p.0)) (sym out) (p.0, p.1, refl);
        reads = read;
      },
    )

transient_by : (c : Cause RequestReason) (failed : Type 0) (P : RequestReason → Type 0) → is_transient c ≡ true → Applies c failed P → Applies c failed (λ r. ⊥)
transient_by memory failed P k h = h
transient_by device failed P k h = h
transient_by (because reason) failed P k h = absurd (cc)

-- a refusal that is given up has its cause
pub gives_up : (agrees : Files → Listings → Type 0) (failed : Type 0) (Outcomes : Files → Listings → Outcome → Type 0) (o : Result FileEvaluation Refusal) (refusal : Refusal)
    → ComesToOverTree agrees failed o Outcomes → o ≡ Err refusal → is_transient (cause_of refusal) ≡ true → GivesUp failed refusal
gives_up agrees failed Outcomes o refusal h e k =
    transient_by (cause_of refusal) failed (λ r. InEachPair agrees (λ files listings. Outcomes files listings (Err r))) k
    (subst (λ (x : Result FileEvaluation Refusal). ComesToOverTree agrees failed x Outcomes) e h)

-- a device that failed in a part failed in the whole
pub gives_up_later : (failed before : Type 0) (refusal : Refusal) → (failed → before) → GivesUp failed refusal → GivesUp before refusal
gives_up_later failed before refusal later h = stands_as (cause_of refusal) failed before (λ r. ⊥) (λ r. ⊥) later (λ r k. k) h

-- what is given up is no reason against the walk
pub gives_up_so : (failed before : Type 0) (P : RequestReason → Type 0) (refusal : Refusal) → (failed → before) → GivesUp failed refusal → Applies (cause_of refusal) before P
gives_up_so failed before P refusal later h = stands_as (cause_of refusal) failed before (λ r. ⊥) P later (λ r k. absurd k) h
