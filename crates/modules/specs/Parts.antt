-- The parts of a step, name by name, for the contracts of this crate's private functions.
use Rattle.std.specs.Prelude.{◌≡◌, ◌<◌, ◌==◌, ℕ, Bool, true, false, not, List, length, map, Option, Some, None, Result, Ok}
use Rattle.std.specs.Prelude.{Err}
use Rattle.std.specs.List.{list_any}
use Rattle.std.specs.Option.{option_map, option_or}
use Rattle.std.specs.declared.vec.Vec.{Vec}
use Rattle.std.specs.declared.alloc.Global.{Global}
use Rattle.envvars.specs.Texts.{Text}
use Rattle.envvars.specs.Environment.{Environment}
use Rattle.envstate.specs.loaded_list.Loaded.{Entry, names_of, added_loaded}
use Rattle.envstate.specs.loaded_list.LoadedEntries as code
use Rattle.envstate.specs.declared.loaded_list.entry.Loaded.{Loaded}
use Rattle.filetree.specs.Agreement.{Files, Listings, FailsAt, InEachPair, ReadsOn}
use Rattle.filetree.specs.Modulefiles.{modulefile}
use Rattle.filetree.specs.Relations.{Is, If, ◌>>◌}
use Rattle.modulefile.specs.Records.{Record}
use Rattle.modulefile.specs.Effects as modes
use Rattle.modulefile.specs.Effects.{Mode, edit_outcome}
use Rattle.modulefile.specs.Moves.{Module, Unloads, entry_of}
use Rattle.modulefile.specs.Answers.{FileContext}
use Rattle.modulefile.specs.Files.{RunsFile}
use Rattle.modulename.specs.ModuleName.{is_module_name}
use Rattle.search.specs.Found as search
use Rattle.search.specs.Reasons.{bad_name}
use Rattle.requests.specs.Reasons.{RequestReason, missed, conflict_with, prereq_missing, file_refused, refused_edit}
use Rattle.requests.specs.Refusals.{refused_as, unless, RefusedAs}
use Rattle.requests.specs.Conditions.{recorded_conflict, own_conflict, missing_group, load_objection}
use Rattle.requests.specs.Looked.{LoadLooksAt, UnloadLooksAt, ShowLooksAt, EachLooksAt}
use Rattle.requests.specs.Steps.{RequestContext, Done, entries_of, script_at, last_meant, continued, module_of}
use Rattle.requests.specs.Steps.{with_report, shown_text, described_text, LoadsName, UnloadsName, ShowsName}
use Rattle.requests.specs.Verdicts.{Verdict, verdict_of}
use Rattle.modules.specs.Answers.{StepAnswersOverTree, is_failure}
use Rattle.modules.specs.declared.refusal.Refusal.{Refusal}
use Rattle.modules.specs.declared.progress.RequestProgress.{RequestProgress}
use Rattle.modules.specs.declared.one_name.NameRequest.{NameRequest}
use Rattle.modules.specs.declared.one_name.ReportKind.{ReportKind}
use Rattle.modules.specs.declared.one_name.ReportKind.TheVariants.{Show, Whatis}
use Rattle.modules.specs.declared.step.NameAction.{NameAction}
use Rattle.modules.specs.declared.step.NameAction.TheVariants.{Load, Unload, ReportOn}

-- the entries of a list of loaded modules
abbrev pub entries_view : Vec Loaded Global → List Entry
entries_view v = map code.entry_view v.items

-- The list is what the texts of the loaded modules are read as in the environment.
abbrev pub AreEntriesOf : List Entry → Environment → Type 0
AreEntriesOf xs e = Ok xs ≡ entries_of e

-- that is so of the list of a request in progress
abbrev pub IsListedIn : RequestProgress → Environment → Type 0
IsListedIn progress e = AreEntriesOf (entries_view progress.list.entries) e

-- the module needs another
abbrev pub needs_another : Entry → Bool
needs_another x = not (length x.prereqs == 0)

-- one of these modules needs another
abbrev pub any_needs : List Entry → Bool
any_needs xs = list_any needs_another xs

-- one of these modules can lose what it needs; an unload adds none that needs another
abbrev pub may_lose : NameAction → List Entry → Bool
may_lose Load xs = true
may_lose Unload xs = any_needs xs
may_lose (ReportOn report_kind) xs = true

-- What a call over a tree keeps of it, what it answers, and at which paths it may have failed.
pub record TreeAnswer {T X Y : Type 0} (agrees : T → Files → Listings → Type 0) (failures : T → ℕ)
    (failed : T → Text → Bool) (old new : T) (view : X → Y) (result : Result X Refusal)
    (Comes : Files → Listings → Result Y RequestReason → Type 0) (LooksAt : Files → Listings → Text → Type 0)
    : Type 0 where
  pub reads : ReadsOn agrees failures old new
  pub over_tree : StepAnswersOverTree (agrees new) (failures old < failures new) view result Comes
  pub failed_at : FailsAt is_failure (failed old) (failed new) result (λ at.
      InEachPair (agrees new) (λ files listings. LooksAt files listings at))

-- what forbids a module with these conflicts and prereqs beside those that are loaded
abbrev pub objection : Text → List Text → List (List Text) → List Entry → Option RequestReason
objection name conflicts prereqs entries =
    option_or (option_map (λ x. conflict_with x.name) (recorded_conflict name entries)) (
    option_or (option_map (λ x. conflict_with x.name) (own_conflict conflicts entries)) (
    option_map prereq_missing (missing_group prereqs entries)))

-- the entry of a module, unless something forbids it
abbrev pub allowed_entry : List Entry → Module → Result Entry RequestReason
allowed_entry entries m = unless (load_objection m.name m.records entries) (Ok (entry_of m))

-- the environment with the entry of a module, unless something forbids it
abbrev pub added : List Entry → Module → Environment → Result Environment RequestReason
added entries m e =
    unless (load_objection m.name m.records entries) (refused_as refused_edit
    (edit_outcome (added_loaded e (entry_of m))))

-- the context in which the file of this name and path is evaluated, where these modules are loaded
abbrev pub context_with_loaded : NameRequest → Mode → Text → Text → List Text → Environment → FileContext
context_with_loaded name_request mode name path loaded e =
    record {
      mode = mode;
      in_switch = name_request.in_switch;
      name = name;
      path = path;
      shell = name_request.settings.shell;
      typed = name_request.typed.now;
      loaded = loaded;
      before = e;
    }

-- the same context, by the entries of the loaded modules
abbrev pub file_context : NameRequest → Mode → Text → Text → List Entry → Environment → FileContext
file_context name_request mode name path xs e = context_with_loaded name_request mode name path (names_of xs) e

-- the loaded module of this entry, with the script in its file
abbrev pub ReadsEntry : Files → Entry → Result search.FoundModule RequestReason → Type 0
ReadsEntry files x =
    Is (script_at x.path (modulefile (files x.path))) >> (λ text.
    Is (Ok (record { name = x.name; path = x.path; text = text })))

-- nothing where there is no such entry
abbrev pub ReadsMeant : Files → Option Entry → Result (Option search.FoundModule) RequestReason → Type 0
ReadsMeant files None = Is (Ok None)
ReadsMeant files (Some x) = ReadsEntry files x >> (λ m. Is (Ok (Some m)))

-- the last of the loaded modules that the name means, with the script in its file
abbrev pub FindsLoaded : Files → Text → List Entry → Result (Option search.FoundModule) RequestReason → Type 0
FindsLoaded files typed xs =
    If (is_module_name typed) (ReadsMeant files (last_meant typed xs)) (Is (Err (missed (bad_name typed))))

-- this looks at the recorded path of that module, and at no other
pub record LoadedLooksAt (typed : Text) (xs : List Entry) (at : Text) : Type 0 where
  pub spelled : is_module_name typed ≡ true
  pub entry : Entry
  pub meant : Some entry ≡ last_meant typed xs
  pub recorded : at ≡ entry.path

-- the module is unloaded by its script
abbrev pub UnloadsFound : NameRequest → search.FoundModule → List Entry → Done → Result Done RequestReason → Type 0
UnloadsFound name_request m xs d =
    RefusedAs file_refused
    (RunsFile name_request.settings.limits (file_context name_request modes.unload m.name m.path xs d.env) m.text)
    >> (λ ran. Is (continued d (Unloads (module_of m.name m.path ran)) ran.messages))

-- the mode in which a file is evaluated for a report
abbrev pub report_mode : ReportKind → Mode
report_mode Show = modes.display
report_mode Whatis = modes.whatis

-- the text of a report on a module with these records
abbrev pub report_text : ReportKind → search.FoundModule → List Record → Text
report_text Show = shown_text
report_text Whatis = described_text

-- the file of the module is evaluated, and its messages and report are added
abbrev pub ReportsFound : NameRequest → ReportKind → search.FoundModule → List Entry → Done
    → Result Done RequestReason → Type 0
ReportsFound name_request report_kind m xs d =
    RefusedAs file_refused
    (RunsFile name_request.settings.limits (file_context name_request
    (report_mode report_kind) m.name m.path xs d.env) m.text)
    >> (λ ran. Is (Ok (with_report d ran.messages (report_text report_kind m ran.records))))

-- the file of the module is evaluated for loading, and shows the verdict
abbrev pub JudgesFound : NameRequest → search.FoundModule → List Entry → Environment
    → Result Verdict RequestReason → Type 0
JudgesFound name_request m xs e =
    RefusedAs file_refused
    (RunsFile name_request.settings.limits (file_context name_request modes.load m.name m.path xs e) m.text)
    >> (λ ran. Is (Ok (verdict_of ran)))

-- the step for one name
abbrev pub NameActionStep : NameAction → RequestContext → Text → Done → Result Done RequestReason → Type 0
NameActionStep Load s = LoadsName s false
NameActionStep Unload s = UnloadsName s false
NameActionStep (ReportOn report_kind) s = ShowsName s (report_mode report_kind) (report_text report_kind)

-- the paths that the step for one name looks at
abbrev pub NameActionLooksAt : NameAction → RequestContext → Text → Done → Text → Type 0
NameActionLooksAt Load s = LoadLooksAt s
NameActionLooksAt Unload s = UnloadLooksAt
NameActionLooksAt (ReportOn report_kind) s = ShowLooksAt s

-- the paths that the steps for all names look at
abbrev pub EachActionLooksAt : NameAction → RequestContext → List Text → Done → Text → Type 0
EachActionLooksAt name_action s = EachLooksAt (NameActionStep name_action s) (NameActionLooksAt name_action s)
