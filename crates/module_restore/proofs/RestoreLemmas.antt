-- What a restore and a reload answer, by the run of their requests.
use Rattle.std.proofs.Common.{◌≡◌, List, [], string_bytes, Result, Ok, Err, IfOk, IfErr, inr, refl, sym, ap, subst}
use Rattle.envvars.specs.Texts.{Text, texts_in}
use Rattle.envvars.specs.Environment.{Environment}
use Rattle.envstate.specs.loaded_list.Loaded.{Entry, names_of}
use Rattle.filetree.specs.Agreement.{Files, Listings, InEachPair}
use Rattle.filetree.specs.Causes.{Applies, Cause, memory, device, because}
use Rattle.shelltext.specs.Reading.{SaysDifference}
use Rattle.shelltext.specs.declared.print.PrintFault.TheVariants as prints
use Rattle.shelltext.specs.declared.shell.Shell.{Shell}
use Rattle.tclrules.specs.declared.limits.Limits.{Limits}
use Rattle.requests.specs.Reasons.{RequestReason}
use Rattle.requests.specs.Requests.{RequestedAction}
use Rattle.requests.specs.Steps.{RequestContext, RequestStep, Done, entries_of, request_context_in}
use Rattle.modules.specs.Answers.{cause_of}
use Rattle.modules.specs.declared.refusal.Refusal.{Refusal}
use Rattle.modules.proofs.StepLemmas.{stands_as}
use Rattle.shelltext.specs.Printing.{LacksText}
use Rattle.module_auto.specs.Answers.{IsRequestFault, Outcomes}
use Rattle.module_auto.specs.Views.{IsUnsaid}
use Rattle.module_restore.specs.Answers.{IsRestored}
use Rattle.module_restore.specs.Restores.{LoadStep, LoadStepLooksAt, ReloadLooksAt, ReloadStep, ReplacingLooksAt, ReplacingStep, RestoreLooksAt, RestoreStep, both, searching}
use Rattle.module_restore.specs.Views.{named, loaded_names}
use Rattle.module_auto.specs.declared.fault.RequestFault.{RequestFault}
use Rattle.module_auto.specs.declared.fault.RequestFault.TheVariants.{Refused, Unprinted}
use Rattle.module_restore.specs.declared.restoring.Restored.{Restored}

-- want of memory
pub memory_applies : (c : Cause RequestReason) (failed : Type 0) (P : RequestReason → Type 0) → c ≡ memory → Applies c failed P
memory_applies memory failed P h = tt
memory_applies device failed P h = absurd (cc)
memory_applies (because r) failed P h = absurd (cc)

-- ---- the requests, one after the other

-- a first request that is refused
pub first_refused : (s : RequestContext) (e : Environment) (first : RequestedAction) (directories modules : List Text) (r : RequestReason) → RequestStep s e first (Err r)
    → ReplacingStep s e first directories modules (Err r)
first_refused s e first directories modules r refused = (Err r, refused, refl)

module _ (s : RequestContext) (e before : Environment) (first : RequestedAction) (directories modules : List Text) (done : Done) (accepted : RequestStep s e first (Ok done))
    (searched : before ≡ searching directories done.env) where
  -- a load that is refused
  pub load_refused : (r : RequestReason) → LoadStep s modules before (Err r) → ReplacingStep s e first directories modules (Err r)
  load_refused r then =
      let P : Environment → Type 0 = λ x. LoadStep s modules x (Err r) in
      (Ok done, accepted, (Err r, subst P searched then, refl))

  pub load_done : (loaded : Done) → LoadStep s modules before (Ok loaded) → ReplacingStep s e first directories modules (Ok (both done loaded))
  load_done loaded then =
      let P : Environment → Type 0 = λ x. LoadStep s modules x (Ok loaded) in
      (Ok done, accepted, (Ok loaded, subst P searched then, refl))

  -- where the load looks
  pub load_looks : (at : Text) → LoadStepLooksAt s modules before at → ReplacingLooksAt s e first directories modules at
  load_looks at then =
      let P : Environment → Type 0 = λ x. LoadStepLooksAt s modules x at in
      inr (done, accepted, subst P searched then)

-- ---- the answer

-- a text that isn't there
pub unsaid : (agrees : Files → Listings → Type 0) (failed : Type 0) (shell : Shell) (e new : Environment) (d : Done) (Comes : Outcomes) (fault : RequestFault)
    → d.env ≡ new → InEachPair agrees (λ files listings. Comes files listings (Ok d)) → IsUnsaid shell e new fault → IsRequestFault agrees failed shell e Comes fault
unsaid agrees failed shell e new d Comes (Refused refusal) made step h =
    memory_applies (cause_of refusal) failed (λ reason. InEachPair agrees (λ files listings. Comes files listings (Err reason))) h
unsaid agrees failed shell e new d Comes (Unprinted prints.OutOfMemory) made step h = tt
unsaid agrees failed shell e new d Comes (Unprinted (prints.NotSayable name)) made step h =
    (d, step, subst (λ (x : Environment). LacksText shell e x (string_bytes name)) (sym made) h)

module _ (agrees : Files → Listings → Type 0) (shell : Shell) (e : Environment) (d : Done) (Comes : Outcomes) (step : InEachPair agrees (λ files listings. Comes files listings (Ok d))) where
  pub answered : (result : Result Restored RequestFault) → IfOk result (λ a. SaysDifference shell (string_bytes a.text) e d.env) → IfOk result (λ a. texts_in a.messages ≡ d.messages)
      → IfOk result (λ a. IsRestored agrees shell e Comes (string_bytes a.text) (texts_in a.messages))
  answered (Ok a) said same = (d, step, said, same)
  answered (Err fault) said same = tt

  pub unanswered : (failed : Type 0) (result : Result Restored RequestFault) → IfErr result (IsUnsaid shell e d.env) → IfErr result (IsRequestFault agrees failed shell e Comes)
  unanswered failed (Ok a) h = tt
  unanswered failed (Err fault) h = unsaid agrees failed shell e d.env d Comes fault refl step h

-- ---- a reload

reloads_by : (s : RequestContext) (e : Environment) (names : List Text) (o : Result Done RequestReason) (found : Result (List Entry) RequestReason) → entries_of e ≡ found
    → Ok names ≡ named found → RestoreStep s e [] names o → ReloadStep s e o
reloads_by s e names o (Ok entries) is h k =
    let same : names ≡ names_of entries = cc in
    (Ok entries, sym is, subst (λ (l : List Text). RestoreStep s e [] l o) same k)
reloads_by s e names o (Err r) is h k = absurd (cc)

pub reloads : (s : RequestContext) (e : Environment) (names : List Text) (o : Result Done RequestReason) → Ok names ≡ loaded_names e → RestoreStep s e [] names o → ReloadStep s e o
reloads s e names o h k = reloads_by s e names o (entries_of e) refl h k

unread_by : (s : RequestContext) (e : Environment) (r : RequestReason) (found : Result (List Entry) RequestReason) → entries_of e ≡ found → Err r ≡ named found → ReloadStep s e (Err r)
unread_by s e r (Ok entries) is h = absurd (cc)
unread_by s e r (Err q) is h = let same : r ≡ q = cc in (Err q, sym is, ap (λ (x : RequestReason). let o : Result Done RequestReason = Err x in o) same)

pub unread : (s : RequestContext) (e : Environment) (r : RequestReason) → Err r ≡ loaded_names e → ReloadStep s e (Err r)
unread s e r h = unread_by s e r (entries_of e) refl h

looks_by : (s : RequestContext) (e : Environment) (names : List Text) (at : Text) (found : Result (List Entry) RequestReason) → entries_of e ≡ found
    → Ok names ≡ named found → RestoreLooksAt s e [] names at → ReloadLooksAt s e at
looks_by s e names at (Ok entries) is h k =
    let same : names ≡ names_of entries = cc in
    (entries, sym is, subst (λ (l : List Text). RestoreLooksAt s e [] l at) same k)
looks_by s e names at (Err r) is h k = absurd (cc)

pub reload_looks : (s : RequestContext) (e : Environment) (names : List Text) (at : Text) → Ok names ≡ loaded_names e → RestoreLooksAt s e [] names at → ReloadLooksAt s e at
reload_looks s e names at h k = looks_by s e names at (entries_of e) refl h k

-- of wider outcomes
restored_wider : (agrees : Files → Listings → Type 0) (shell : Shell) (e : Environment) (First Whole : Outcomes) (text : Text) (messages : List Text)
    → ((files : Files) (listings : Listings) (o : Result Done RequestReason) → First files listings o → Whole files listings o)
    → IsRestored agrees shell e First text messages → IsRestored agrees shell e Whole text messages
restored_wider agrees shell e First Whole text messages wider (d, step, said, same) = (d, λ files listings a. wider files listings (Ok d) (step files listings a), said, same)

fault_wider : (agrees : Files → Listings → Type 0) (failed : Type 0) (shell : Shell) (e : Environment) (First Whole : Outcomes) (fault : RequestFault)
    → ((files : Files) (listings : Listings) (o : Result Done RequestReason) → First files listings o → Whole files listings o)
    → IsRequestFault agrees failed shell e First fault → IsRequestFault agrees failed shell e Whole fault
fault_wider agrees failed shell e First Whole (Refused refusal) wider h =
    stands_as (cause_of refusal) failed failed (λ r. InEachPair agrees (λ files listings. First files listings (Err r))) (λ r. InEachPair agrees (λ files listings. Whole files listings (Err r)))
    (λ q. q) (λ r k files listings a. wider files listings (Err r) (k files listings a)) h
fault_wider agrees failed shell e First Whole (Unprinted prints.OutOfMemory) wider h = tt
fault_wider agrees failed shell e First Whole (Unprinted (prints.NotSayable name)) wider (d, step, lacks) = (d, λ files listings a. wider files listings (Ok d) (step files listings a), lacks)

module _ (agrees : Files → Listings → Type 0) (shell : Shell) (e : Environment) (First Whole : Outcomes)
    (wider : (files : Files) (listings : Listings) (o : Result Done RequestReason) → First files listings o → Whole files listings o) where
  pub answered_wider : (result : Result Restored RequestFault) → IfOk result (λ a. IsRestored agrees shell e First (string_bytes a.text) (texts_in a.messages))
      → IfOk result (λ a. IsRestored agrees shell e Whole (string_bytes a.text) (texts_in a.messages))
  answered_wider (Ok a) h = restored_wider agrees shell e First Whole (string_bytes a.text) (texts_in a.messages) wider h
  answered_wider (Err fault) h = tt

  pub unanswered_wider : (failed : Type 0) (result : Result Restored RequestFault) → IfErr result (IsRequestFault agrees failed shell e First)
      → IfErr result (IsRequestFault agrees failed shell e Whole)
  unanswered_wider failed (Ok a) h = tt
  unanswered_wider failed (Err fault) h = fault_wider agrees failed shell e First Whole fault wider h

-- lists that can't be read
pub unread_fault : (agrees : Files → Listings → Type 0) (failed : Type 0) (limits : Limits) (shell : Shell) (e : Environment) (refusal : Refusal)
    → Applies (cause_of refusal) ⊥ (λ r. Err r ≡ loaded_names e)
    → IsRequestFault agrees failed shell e (λ files listings. ReloadStep (request_context_in limits shell files listings) e) (Refused refusal)
unread_fault agrees failed limits shell e refusal h =
    stands_as (cause_of refusal) ⊥ failed (λ r. Err r ≡ loaded_names e)
    (λ r. InEachPair agrees (λ files listings. ReloadStep (request_context_in limits shell files listings) e (Err r))) (λ q. absurd q)
    (λ r k files listings a. unread (request_context_in limits shell files listings) e r k) h
