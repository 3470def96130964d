-- What `help` answers of a module, by the evaluations of its file.
use Rattle.std.proofs.Common.{◌≡◌, ◌==◌, ◌++◌, true, false, List, [], ◌∷◌, length, map, string_bytes, Option, Some, None, IfSome, arith}
use Rattle.std.specs.Option.{option_map}
use Rattle.std.proofs.lemmas.Bool.Decides.{nat_tests}
use Rattle.std.proofs.Common.{Result, Ok, Err, String, refl, sym, ap, ◌∙◌, subst}
use Rattle.std.specs.declared.alloc.Global.{Global}
use Rattle.envvars.specs.Texts.{Text}
use Rattle.envvars.specs.Environment.{Environment}
use Rattle.envstate.specs.loaded_list.Loaded.{Entry, names_of}
use Rattle.filetree.specs.Causes.{Applies, Cause}
use Rattle.modulefile.specs.Answers.{FileContext}
use Rattle.modulefile.specs.Effects as modes
use Rattle.modulefile.specs.Files.{FileReason, RunsFile}
use Rattle.modulefile.specs.RecordViews.{record_view}
use Rattle.modulefile.specs.declared.records.Record as code
use Rattle.modulefile.specs.Reports.{whatis_text}
use Rattle.modulefile_run.specs.Running.{RunsTo, file_reason_of, ran_view}
use Rattle.modulefile_run.specs.declared.run.FileRun.{FileRun}
use Rattle.modulefile_run.specs.declared.run_fault.RunFault.{RunFault}
use Rattle.search.specs.Found as search
use Rattle.shelltext.specs.declared.shell.Shell.{Shell}
use Rattle.tclrules.specs.declared.limits.Limits.{Limits}
use Rattle.requests.specs.Reasons.{RequestReason, file_refused}
use Rattle.requests.specs.Refusals.{RefusedAs}
use Rattle.requests.specs.Steps.{RequestContext, Finds, entries_of}
use Rattle.modules.specs.Answers.{GivesOrRefuses, by_reason, cause_of}
use Rattle.modules.specs.declared.refusal.Refusal.{Refusal}
use Rattle.modules.proofs.StepLemmas.{if_no, if_yes, run_refused, stands_as}
use Rattle.module_reports.specs.descriptions.Calls.{with_call}
use Rattle.module_reports.specs.descriptions.Helps.{Describes, HelpAnswer, Helps, HelpsCalled, HelpsFound, described, joined, lacks_help, own, said_or, without_place}
use Rattle.module_reports.specs.descriptions.Views.{RunsText, context_for, help_view, lacks_by, loaded_names, named}
use Rattle.module_reports.specs.declared.descriptions.helping.HelpRequest.{HelpRequest}
use Rattle.module_reports.specs.declared.descriptions.helping.HelpText.{HelpText}

-- what is written of a module, by its parts
pub written_of : (new text said report name n : Text) (ms messages : List (String Global)) (rs records : List code.Record) → new ≡ text ++ said → said ≡ report
    → text ≡ joined (map string_bytes ms) → ms ≡ messages → report ≡ whatis_text n (map record_view rs) → n ≡ name → rs ≡ records
    → new ≡ joined (map string_bytes messages) ++ whatis_text name (map record_view records)
written_of new text said report name n ms messages rs records a b c d e f g =
    a ∙ ap (λ (t : Text). text ++ t) (b ∙ e ∙ ap (λ (x : Text). whatis_text x (map record_view rs)) f ∙ ap (λ (x : List code.Record). whatis_text name (map record_view x)) g)
    ∙ ap (λ (t : Text). t ++ whatis_text name (map record_view records)) (c ∙ ap (λ (x : List (String Global)). joined (map string_bytes x)) d)

-- ---- what was said

pub nothing_said : (said description : Text) → (length said == 0) ≡ true → described description ≡ said_or said description
nothing_said [] description empty = refl
nothing_said (b ∷ said) description empty = absurd (grind (arith, nat_tests))

pub something_said : (said description : Text) → (length said == 0) ≡ false → own said ≡ said_or said description
something_said [] description full = absurd (cc)
something_said (b ∷ said) description full = refl

-- ---- an evaluation

-- the context with this name and path, over this environment
abbrev pub context_at : HelpRequest → Text → Text → Environment → FileContext
context_at request name path before =
    record {
      mode = modes.whatis;
      in_switch = false;
      name = name;
      path = path;
      shell = request.shell;
      typed = request.typed.now;
      loaded = map string_bytes request.loaded.now;
      before = before;
    }

module _ (request : HelpRequest) (m : search.FoundModule) (e before : Environment) (name path : Text) (named-so : name ≡ m.name) (placed : path ≡ m.path) (over : before ≡ e) where
  in_context : (P : FileContext → Type 0) → P (context_at request name path before) → P (context_for request m e)
  in_context P h =
      subst (λ (x : Text). P (context_at request x m.path e)) named-so
      (subst (λ (x : Text). P (context_at request name x e)) placed (subst (λ (x : Environment). P (context_at request name path x)) over h))

  pub evaluated : (limits : Limits) (text : Text) (result : Result FileRun RunFault) (last : Environment) → RunsTo limits (context_at request name path before) text result last
      → RunsText limits (context_for request m e) text result
  evaluated limits text (Ok ran) last h = (last, in_context (λ c. RunsFile limits c text (Ok (ran_view ran last))) h)
  evaluated limits text (Err fault) last h = in_context (λ c. IfSome (file_reason_of fault) (λ reason. RunsFile limits c text (Err reason))) h.1

-- of the text that was given
pub of_text : (limits : Limits) (c : FileContext) (text given : Text) (result : Result FileRun RunFault) → given ≡ text → RunsText limits c given result → RunsText limits c text result
of_text limits c text given result same h = subst (λ (t : Text). RunsText limits c t result) same h

module _ (limits : Limits) (c : FileContext) (m : search.FoundModule) where
  -- ---- a description

  pub describes : (ran : FileRun) (new : Environment) (text : Text) → RunsFile limits c m.text (Ok (ran_view ran new))
      → text ≡ joined (map string_bytes ran.messages.items) ++ whatis_text m.name (map record_view ran.records.items) → Describes limits c m (Ok text)
  describes ran new text h same =
      (Ok (ran_view ran new), (Ok (ran_view ran new), h, refl), ap (λ (t : Text). let o : Result Text RequestReason = Ok t in o) same)

  pub undescribed : (reason : Option FileReason) → IfSome reason (λ r. RunsFile limits c m.text (Err r))
      → Applies (by_reason file_refused reason) ⊥ (λ r. Describes limits c m (Err r))
  undescribed reason h =
      stands_as (by_reason file_refused reason) ⊥ ⊥ (λ r. RefusedAs file_refused (RunsFile limits c m.text) (Err r)) (λ r. Describes limits c m (Err r))
      (λ q. q) (λ r k. (Err r, k, refl)) (run_refused reason (RunsFile limits c m.text) h)

  -- ---- the file with the call behind it

  module _ (description : Text) where
    pub helps : (ran : FileRun) (new : Environment) (answer : HelpAnswer) (said : Text) → RunsFile limits c (with_call m.text) (Ok (ran_view ran new))
        → answer ≡ said_or said description → said ≡ joined (map string_bytes ran.messages.items) → HelpsCalled limits c m description (Ok answer)
    helps ran new answer said h is same =
        (Ok (ran_view ran new), h, ap (λ (a : HelpAnswer). let o : Result HelpAnswer RequestReason = Ok a in o) (is ∙ ap (λ (t : Text). said_or t description) same))

    -- the file has no procedure
    pub without_help : (reason : Option FileReason) → lacks_by reason ≡ true → IfSome reason (λ r. RunsFile limits c (with_call m.text) (Err r))
        → HelpsCalled limits c m description (Ok (described description))
    without_help None lacks h = absurd (cc)
    without_help (Some r) lacks h = (Err r, h, if_yes (lacks_help r.stop) _ _ (Ok (described description)) lacks refl)

    -- the procedure is refused
    pub unhelped : (reason : Option FileReason) → lacks_by reason ≡ false → IfSome reason (λ r. RunsFile limits c (with_call m.text) (Err r))
        → Applies (by_reason file_refused (option_map without_place reason)) ⊥ (λ r. HelpsCalled limits c m description (Err r))
    unhelped None lacks h = tt
    unhelped (Some r) lacks h = (Err r, h, if_no (lacks_help r.stop) _ _ (Err (file_refused (without_place r))) lacks refl)

  -- ---- both

  -- the description is refused
  pub refused_found : (cause : Cause RequestReason) → Applies cause ⊥ (λ r. Describes limits c m (Err r)) → Applies cause ⊥ (λ r. HelpsFound limits c m (Err r))
  refused_found cause h = stands_as cause ⊥ ⊥ (λ r. Describes limits c m (Err r)) (λ r. HelpsFound limits c m (Err r)) (λ q. q) (λ r k. (Err r, k, refl)) h

  -- what is said of the module with this description
  pub called_found : (description : Text) (result : Result HelpText Refusal) → Describes limits c m (Ok description) → GivesOrRefuses help_view result (HelpsCalled limits c m description)
      → GivesOrRefuses help_view result (HelpsFound limits c m)
  called_found description (Ok x) h k = (Ok description, h, k)
  called_found description (Err e) h k =
      stands_as (cause_of e) ⊥ ⊥ (λ r. HelpsCalled limits c m description (Err r)) (λ r. HelpsFound limits c m (Err r)) (λ q. q) (λ r l. (Ok description, h, l)) k

-- ---- the whole

-- the context in which the file of a module is evaluated, where modules of these names are loaded
abbrev pub context_with : Shell → Text → search.FoundModule → List Text → Environment → FileContext
context_with shell typed m loaded e =
    record { mode = modes.whatis; in_switch = false; name = m.name; path = m.path; shell = shell; typed = typed; loaded = loaded; before = e }

module _ (s : RequestContext) (e : Environment) (typed : Text) where
  helps_by : (names : List Text) (m : search.FoundModule) (o : Result HelpAnswer RequestReason) (found : Result (List Entry) RequestReason) → entries_of e ≡ found
      → Ok names ≡ named found → Finds s e typed (Ok m) → HelpsFound s.limits (context_with s.shell typed m names e) m o → Helps s e typed o
  helps_by names m o (Ok xs) is h finds k =
      let same : names ≡ names_of xs = cc in
      (Ok xs, sym is, (Ok m, finds, subst (λ (l : List Text). HelpsFound s.limits (context_with s.shell typed m l e) m o) same k))
  helps_by names m o (Err r) is h finds k = absurd (cc)

  pub helps_found : (names : List Text) (m : search.FoundModule) (o : Result HelpAnswer RequestReason) → Ok names ≡ loaded_names e
      → Finds s e typed (Ok m) → HelpsFound s.limits (context_with s.shell typed m names e) m o → Helps s e typed o
  helps_found names m o h finds k = helps_by names m o (entries_of e) refl h finds k

  missed_by : (names : List Text) (r : RequestReason) (found : Result (List Entry) RequestReason) → entries_of e ≡ found
      → Ok names ≡ named found → Finds s e typed (Err r) → Helps s e typed (Err r)
  missed_by names r (Ok xs) is h finds = (Ok xs, sym is, (Err r, finds, refl))
  missed_by names r (Err q) is h finds = absurd (cc)

  -- no module is found
  pub helps_missed : (names : List Text) (r : RequestReason) → Ok names ≡ loaded_names e → Finds s e typed (Err r) → Helps s e typed (Err r)
  helps_missed names r h finds = missed_by names r (entries_of e) refl h finds

  unread_by : (r : RequestReason) (found : Result (List Entry) RequestReason) → entries_of e ≡ found → Err r ≡ named found → Helps s e typed (Err r)
  unread_by r (Ok xs) is h = absurd (cc)
  unread_by r (Err q) is h = let same : r ≡ q = cc in (Err q, sym is, ap (λ (x : RequestReason). let o : Result HelpAnswer RequestReason = Err x in o) same)

  -- the loaded lists don't fit together
  pub helps_unread : (r : RequestReason) → Err r ≡ loaded_names e → Helps s e typed (Err r)
  helps_unread r h = unread_by r (entries_of e) refl h
