-- Why a request is refused, by what was said of its refusal.
use Rattle.std.proofs.Common.{◌≡◌, true, false, List, Option, Some, None, Result, Ok, Err, IfErr, IfOk, inl, inr, refl, sym, subst}
use Rattle.std.specs.Prelude.{IfSome, is_none, ◌⊎◌, ⊤}
use Rattle.envvars.specs.Environment.{Environment}
use Rattle.envvars.specs.Reasons as edits
use Rattle.envvars.specs.Texts.{Text}
use Rattle.filetree.specs.Agreement.{Files, Listings, Narrows}
use Rattle.filetree.specs.Causes.{Applies, Cause, memory, device, because}
use Rattle.modules.specs.transient_failures.Causes.{is_transient}
use Rattle.shelltext.specs.declared.shell.Shell.{Shell}
use Rattle.tclrules.specs.declared.limits.Limits.{Limits}
use Rattle.modulefile.specs.Files.{FileReason}
use Rattle.modulefile.specs.Judgments.{bad_edit}
use Rattle.modulefile_run.specs.Running.{file_reason_of}
use Rattle.modulefile_run.specs.declared.run_fault.RunFault.{RunFault}
use Rattle.modules.specs.Answers.{by_reason, by_search, cause_of}
use Rattle.modules.specs.declared.refusal.Refusal.{Refusal}
use Rattle.modules.specs.declared.refusal.Refusal.TheVariants as refusals
use Rattle.modules.specs.declared.reply.RequestChanges.{RequestChanges}
use Rattle.requests.specs.Reasons as reasons
use Rattle.requests.specs.Reasons.{RequestReason, file_refused, missed, refused_edit, bad_arguments}
use Rattle.requests.specs.Requests.{RequestedAction, request_of}
use Rattle.search.specs.Answers.{cause_of as find_cause}
use Rattle.search.specs.Reasons.{FindReason}
use Rattle.module_explain.specs.declared.location.FileExplanation.{FileExplanation}
use Rattle.module_explain.proofs.AdviceLemmas.{Answers}
use Rattle.module_explain.specs.Advised.{ComesTo, IsAdvised}
use Rattle.module_explain.specs.Locations.{IsLocated, IsNotLocated}
use Rattle.module_explain.specs.Explained.{IsExplained, IsFile, IsOfCause, IsOfOutcome, IsSound, IsUnexplained, IsWhy}
use Rattle.module_explain.specs.Views.{IfBecause, IsFileOf, is_known}
use Rattle.module_explain.specs.declared.advice.Advice.{Advice}
use Rattle.module_explain.specs.declared.advice.Advice.TheVariants as advices
use Rattle.module_explain.specs.declared.explanation.Explanation.{Explanation}

-- a line is sound whatever the request is
known_sound : (agrees : Files → Listings → Type 0) (limits : Limits) (shell : Shell) (e : Environment) (advice : Advice)
    → is_known advice ≡ true → IsSound agrees limits shell e advice
known_sound agrees limits shell e (advices.Try action) h = absurd (cc)
known_sound agrees limits shell e (advices.TryAutomated asked action) h = absurd (cc)
known_sound agrees limits shell e (advices.Known line) h = tt

pub known_if : (agrees : Files → Listings → Type 0) (limits : Limits) (shell : Shell) (e : Environment)
    (o : Option Advice) → IfSome o (λ advice. is_known advice ≡ true) → IfSome o (IsSound agrees limits shell e)
known_if agrees limits shell e None h = tt
known_if agrees limits shell e (Some advice) h = known_sound agrees limits shell e advice h

-- the same of an answer
pub knowns : {E : Type 0} (agrees : Files → Listings → Type 0) (limits : Limits) (shell : Shell) (e : Environment)
    (r : Result (Option Advice) E) → IfOk r (λ o. IfSome o (λ advice. is_known advice ≡ true)) → IfOk r (λ o. IfSome o (IsSound agrees limits shell e))
knowns agrees limits shell e (Ok o) h = known_if agrees limits shell e o h
knowns agrees limits shell e (Err fault) h = tt

-- ---- the file

-- a reason that is there
pub reason_in : (o : Option FileReason) → is_none o ≡ false → (reason : FileReason) × (o ≡ Some reason)
reason_in (Some reason) h = (reason, refl)
reason_in None h = absurd (cc)

module _ (agrees : Files → Listings → Type 0) where
  -- of a fault of a modulefile
  of_fault : (f : RunFault) (o : Option FileExplanation) (reason : FileReason) → file_reason_of f ≡ Some reason
      → IsFileOf agrees (refusals.Run f) o → IsFile agrees (file_refused reason) o
  of_fault f None reason is (caused, h) = subst (λ (r : Option FileReason). IfSome r (IsNotLocated agrees)) is h
  of_fault f (Some x) reason is (caused, h) = subst (λ (r : Option FileReason). IfSome r (λ reason. IsLocated agrees reason x)) is h

  -- what isn't of a file has none
  no_file : (reason : RequestReason) → ((r : FileReason) → reason ≡ file_refused r → ⊥) → (o : Option FileExplanation) → o ≡ None → IsFile agrees reason o
  no_file (file_refused r) not o h = absurd (not r refl)
  no_file reasons.bad_arguments not o h = h
  no_file (reasons.unknown_subcommand word) not o h = h
  no_file (missed reason) not o h = h
  no_file (reasons.file_gone path) not o h = h
  no_file (reasons.not_a_modulefile path) not o h = h
  no_file (reasons.conflict_with name) not o h = h
  no_file (reasons.prereq_missing names) not o h = h
  no_file (reasons.still_needed_by name) not o h = h
  no_file (refused_edit reason) not o h = h

  abbrev pub Said : Option FileExplanation → Cause RequestReason → Type 0
  Said o c = IfBecause c (λ r. IsFile agrees r o)

  by_find : (c : Cause FindReason) (o : Option FileExplanation) → o ≡ None → Said o (by_search c)
  by_find memory o h = tt
  by_find device o h = tt
  by_find (because r) o h = h

  by_edit : {R : Type 0} (view : R → RequestReason) → ((r : R) (f : FileReason) → view r ≡ file_refused f → ⊥) → (c : Option R) (o : Option FileExplanation) → o ≡ None → Said o (by_reason view c)
  by_edit view not None o h = tt
  by_edit view not (Some r) o h = no_file (view r) (not r) o h

  by_file : (f : RunFault) (o : Option FileExplanation) → is_none (file_reason_of f) ≡ false → IsFileOf agrees (refusals.Run f) o
      → Said o (by_reason file_refused (file_reason_of f))
  by_file f o caused h =
      let r = reason_in (file_reason_of f) caused in
      subst (λ (c : Option FileReason). Said o (by_reason file_refused c)) (sym r.1) (of_fault f o r.0 r.1 h)

  pub said_by : (refusal : Refusal) (o : Option FileExplanation) → IsFileOf agrees refusal o → Said o (cause_of refusal)
  said_by (refusals.Run f) None h = by_file f None h.0 h
  said_by (refusals.Run f) (Some x) h = by_file f (Some x) h.0 h
  said_by refusals.OutOfMemory o h = tt
  said_by (refusals.Find fault) o h = by_find (find_cause fault) o h
  said_by (refusals.Env fault) o h = by_edit (λ r. refused_edit (bad_edit r)) (λ r f same. absurd (cc)) (edits.reason_of fault) o h
  said_by refusals.BadArguments o h = h
  said_by (refusals.UnknownSubcommand word) o h = h
  said_by (refusals.ConflictWith name) o h = h
  said_by (refusals.PrereqMissing missing) o h = h
  said_by (refusals.StillNeededBy name) o h = h
  said_by (refusals.FileGone path) o h = h
  said_by (refusals.NotAModulefile path) o h = h

module _ (agrees : Files → Listings → Type 0) (limits : Limits) (shell : Shell) (e : Environment) (action : RequestedAction) where
  -- ---- the outcome

  outcome : (c : Cause RequestReason) (failed : Type 0) (x : Explanation) → is_transient c ≡ false
      → Applies c failed (λ r. ComesTo agrees limits shell e action (Err r)) → Said agrees x.file c
      → IfBecause c (λ r. IsAdvised agrees limits shell e action r x.advice) → IsOfOutcome agrees limits shell e action x
  outcome memory failed x is comes said advised = absurd (cc)
  outcome device failed x is comes said advised = absurd (cc)
  outcome (because r) failed x is comes said advised = inr (r, comes, said, advised)

  -- by the cause of a refusal that no request has brought
  by_cause : (c : Cause RequestReason) (x : Explanation) → Said agrees x.file c → IfBecause c (λ r. IsAdvised agrees limits shell e action r x.advice)
      → IsOfCause agrees limits shell e action c x
  by_cause memory x said advised = tt
  by_cause device x said advised = tt
  by_cause (because r) x said advised = (said, advised)

  pub caused : (given : Refusal) (r : Result Explanation Refusal) → IfOk r (λ x. IsFileOf agrees given x.file)
      → IfOk r (λ x. IfBecause (cause_of given) (λ reason. IsAdvised agrees limits shell e action reason x.advice))
      → IfOk r (IsOfCause agrees limits shell e action (cause_of given))
  caused given (Ok x) file advised = by_cause (cause_of given) x (said_by agrees given x.file file) advised
  caused given (Err refusal) file advised = tt

  why_of : (reason : RequestReason) (o : Option FileExplanation) → ComesTo agrees limits shell e action (Err reason) → IsFile agrees reason o → IfSome o (IsWhy agrees limits shell e action)
  why_of reason None comes h = tt
  why_of (file_refused r) (Some x) comes h = record { reason = r; refused = comes; located = h }
  why_of reasons.bad_arguments (Some x) comes h = absurd (cc)
  why_of (reasons.unknown_subcommand word) (Some x) comes h = absurd (cc)
  why_of (missed reason) (Some x) comes h = absurd (cc)
  why_of (reasons.file_gone path) (Some x) comes h = absurd (cc)
  why_of (reasons.not_a_modulefile path) (Some x) comes h = absurd (cc)
  why_of (reasons.conflict_with name) (Some x) comes h = absurd (cc)
  why_of (reasons.prereq_missing names) (Some x) comes h = absurd (cc)
  why_of (reasons.still_needed_by name) (Some x) comes h = absurd (cc)
  why_of (refused_edit reason) (Some x) comes h = absurd (cc)

  why_if : (x : Explanation) → IsOfOutcome agrees limits shell e action x → IfSome x.file (IsWhy agrees limits shell e action)
  why_if x (inl (accepted, none, more)) = subst (λ (o : Option FileExplanation). IfSome o (IsWhy agrees limits shell e action)) (sym none) tt
  why_if x (inr (reason, comes, said, advised)) = why_of reason x.file comes said

  -- of an answer
  pub whys : (r : Result Explanation Refusal) → IfOk r (IsOfOutcome agrees limits shell e action) → IfOk r (λ x. IfSome x.file (IsWhy agrees limits shell e action))
  whys (Ok x) h = why_if x h
  whys (Err refusal) h = tt

  pub outcomes : (given : Refusal) (failed : Type 0) (r : Result Explanation Refusal) → is_transient (cause_of given) ≡ false
      → Applies (cause_of given) failed (λ reason. ComesTo agrees limits shell e action (Err reason))
      → IfOk r (λ x. IsFileOf agrees given x.file)
      → IfOk r (λ x. IfBecause (cause_of given) (λ reason. IsAdvised agrees limits shell e action reason x.advice))
      → IfOk r (IsOfOutcome agrees limits shell e action)
  outcomes given failed (Ok x) is comes file advised = outcome (cause_of given) failed x is comes (said_by agrees given x.file file) advised
  outcomes given failed (Err refusal) is comes file advised = tt

-- what a request comes to is so over fewer pairs of maps too
pub applies_later : (before now : Files → Listings → Type 0) (limits : Limits) (shell : Shell) (e : Environment) (action : RequestedAction) → Narrows before now
    → (c : Cause RequestReason) (failed : Type 0) → Applies c failed (λ r. ComesTo before limits shell e action (Err r)) → Applies c failed (λ r. ComesTo now limits shell e action (Err r))
applies_later before now limits shell e action narrows memory failed h = tt
applies_later before now limits shell e action narrows device failed h = h
applies_later before now limits shell e action narrows (because r) failed h = λ files listings a. h files listings (narrows files listings a)

-- what is said of a request that is refused, by what the call for it answers
pub outcomes_of : (before now : Files → Listings → Type 0) (limits : Limits) (shell : Shell) (e : Environment) (action : RequestedAction) → Narrows before now
    → (refusal : Refusal) (failed : Type 0) (answer : Result RequestChanges Refusal) (r : Result Explanation Refusal) → answer ≡ Err refusal → is_transient (cause_of refusal) ≡ false
    → Answers before limits shell e failed action answer → IfOk r (λ x. IsFileOf now refusal x.file)
    → IfOk r (λ x. IfBecause (cause_of refusal) (λ reason. IsAdvised now limits shell e action reason x.advice)) → IfOk r (IsOfOutcome now limits shell e action)
outcomes_of before now limits shell e action narrows refusal failed answer r is reason over_tree file advised =
    outcomes now limits shell e action refusal failed r reason
    (applies_later before now limits shell e action narrows (cause_of refusal) failed
    (subst (λ (r : Result RequestChanges Refusal). Answers before limits shell e failed action r) is over_tree))
    file advised

-- ---- why nothing is said

-- of what has no reason
given_up : (fails : Type 0) (words : List Text) (c : Cause RequestReason) → is_transient c ≡ true → Applies c fails (λ r. ⊤) → IsUnexplained fails words c
given_up fails words memory is h = tt
given_up fails words device is h = h
given_up fails words (because r) is h = absurd (cc)

one_transient : (fails : Type 0) (words : List Text) (said : Result Explanation Refusal) (refusal : Refusal) → is_transient (cause_of refusal) ≡ true → (cause_of refusal ≡ memory) ⊎ (said ≡ Err refusal)
    → IfErr said (λ r. Applies (cause_of r) fails (λ reason. ⊤)) → IsUnexplained fails words (cause_of refusal)
one_transient fails words said refusal is (inl e) h = subst (IsUnexplained fails words) (sym e) tt
one_transient fails words said refusal is (inr e) h =
    given_up fails words (cause_of refusal) is (subst (λ (r : Result Explanation Refusal). IfErr r (λ x. Applies (cause_of x) fails (λ reason. ⊤))) e h)

pub all_transient : (fails : Type 0) (words : List Text) (said r : Result Explanation Refusal) → IfErr r (λ refusal. is_transient (cause_of refusal) ≡ true)
    → IfErr r (λ refusal. (cause_of refusal ≡ memory) ⊎ (said ≡ Err refusal)) → IfErr said (λ refusal. Applies (cause_of refusal) fails (λ reason. ⊤))
    → IfErr r (λ refusal. IsUnexplained fails words (cause_of refusal))
all_transient fails words said (Ok x) h same applies = tt
all_transient fails words said (Err refusal) h same applies = one_transient fails words said refusal h same applies

-- what was said is said
pub kept : (said r : Result Explanation Refusal) (P : Explanation → Type 0) → IfOk r (λ x. said ≡ Ok x) → IfOk said P → IfOk r P
kept said (Ok x) P same h = subst (λ (r : Result Explanation Refusal). IfOk r P) same h
kept said (Err refusal) P same h = tt

-- of words that make no request
by_no_search : (fails : Type 0) (words : List Text) (c : Cause FindReason) → Applies (by_search c) ⊥ (λ r. Err r ≡ request_of words) → IsUnexplained fails words (by_search c)
by_no_search fails words memory h = tt
by_no_search fails words device h = absurd h
by_no_search fails words (because r) h = (sym h, λ same. absurd (cc))

by_no_edit : {R : Type 0} (view : R → RequestReason) → ((r : R) → view r ≡ bad_arguments → ⊥) → (fails : Type 0) (words : List Text) (o : Option R)
    → Applies (by_reason view o) ⊥ (λ r. Err r ≡ request_of words) → IsUnexplained fails words (by_reason view o)
by_no_edit view not fails words None h = tt
by_no_edit view not fails words (Some r) h = (sym h, not r)

pub no_request : (fails : Type 0) (words : List Text) (refusal : Refusal) → (refusal ≡ refusals.BadArguments → ⊥) → Applies (cause_of refusal) ⊥ (λ r. Err r ≡ request_of words)
    → IsUnexplained fails words (cause_of refusal)
no_request fails words refusals.OutOfMemory not h = tt
no_request fails words (refusals.Run fault) not h = by_no_edit file_refused (λ r same. absurd (cc)) fails words (file_reason_of fault) h
no_request fails words (refusals.Find fault) not h = by_no_search fails words (find_cause fault) h
no_request fails words (refusals.Env fault) not h = by_no_edit (λ r. refused_edit (bad_edit r)) (λ r same. absurd (cc)) fails words (edits.reason_of fault) h
no_request fails words refusals.BadArguments not h = absurd (not refl)
no_request fails words (refusals.UnknownSubcommand word) not h = (sym h, λ same. absurd (cc))
no_request fails words (refusals.ConflictWith name) not h = (sym h, λ same. absurd (cc))
no_request fails words (refusals.PrereqMissing missing) not h = (sym h, λ same. absurd (cc))
no_request fails words (refusals.StillNeededBy name) not h = (sym h, λ same. absurd (cc))
no_request fails words (refusals.FileGone path) not h = (sym h, λ same. absurd (cc))
no_request fails words (refusals.NotAModulefile path) not h = (sym h, λ same. absurd (cc))

-- ---- the words

module _ (agrees : Files → Listings → Type 0) (limits : Limits) (asked shell : Shell) (e : Environment) (words : List Text) (action : RequestedAction) (same : asked ≡ shell) (made : Ok action ≡ request_of words) where
  pub explained_whys : (r : Result Explanation Refusal) → IfOk r (λ x. IfSome x.file (IsWhy agrees limits asked e action))
      → IfOk r (λ x. IfSome x.file (λ file. (action : RequestedAction) × (request_of words ≡ Ok action) × IsWhy agrees limits shell e action file))
  explained_whys (Ok x) h = each x.file h
    where
      each : (o : Option FileExplanation) → IfSome o (IsWhy agrees limits asked e action)
          → IfSome o (λ file. (action : RequestedAction) × (request_of words ≡ Ok action) × IsWhy agrees limits shell e action file)
      each None k = tt
      each (Some file) k = (action, sym made, subst (λ (s : Shell). IsWhy agrees limits s e action file) same k)
  explained_whys (Err refusal) h = tt

  pub explained_advised : (r : Result Explanation Refusal) → IfOk r (λ x. IfSome x.advice (IsSound agrees limits asked e)) → IfOk r (λ x. IfSome x.advice (IsSound agrees limits shell e))
  explained_advised r h = subst (λ (s : Shell). IfOk r (λ x. IfSome x.advice (IsSound agrees limits s e))) same h

  pub explained : (r : Result Explanation Refusal) → IfOk r (IsOfOutcome agrees limits asked e action) → IfOk r (IsExplained agrees limits shell e words)
  explained (Ok x) h = inr (action, sym made, subst (λ (s : Shell). IsOfOutcome agrees limits s e action x) same h)
  explained (Err refusal) h = tt
