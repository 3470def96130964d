-- A request has one outcome at most, since a search has one and an evaluation has one.
use Rattle.std.proofs.Common.{◌≡◌, Bool, true, false, List, [], ◌∷◌, Option, Some, None, Result, Ok, Err, ap, sym, ◌∙◌}
use Rattle.std.proofs.Common.{reverse}
use Rattle.modulename.specs.ModuleName.{is_module_name}
use Rattle.envvars.specs.Texts.{Text, has}
use Rattle.envvars.specs.Environment.{Environment}
use Rattle.envstate.specs.loaded_list.Loaded.{Entry, names_of}
use Rattle.filetree.specs.Modulefiles.{modulefile}
use Rattle.tclrules.specs.declared.limits.Limits.{Limits}
use Rattle.filetree.specs.Relations.{Is, Then, IsOne}
use Rattle.filetree.proofs.OneOutcome.{one_is, one_then, one_if}
use Rattle.modulefile.specs.Records.{Record}
use Rattle.modulefile.specs.Effects as modes
use Rattle.modulefile.specs.Effects.{Mode}
use Rattle.modulefile.specs.Moves.{Unloads}
use Rattle.modulefile.specs.Answers.{FileContext}
use Rattle.modulefile.specs.Files.{RunsFile}
use Rattle.modulefile.specs.Laws as files
use Rattle.lookup.specs.DefaultFileResults.{HasResult}
use Rattle.search.specs.DefaultFiles.{DefaultFileResult}
use Rattle.search.specs.Reasons.{bad_name}
use Rattle.search.specs.Found as search
use Rattle.search.specs.Found.{Found}
use Rattle.search.proofs.OneFound.{one_module}
use Rattle.search.proofs.OneListing.{one_listed}
use Rattle.requests.specs.Refusals.{unless, RefusedAs}
use Rattle.requests.specs.Reasons.{RequestReason, bad_arguments, missed, file_refused}
use Rattle.requests.specs.Requests.{RequestedAction, load, unload, switch, purge, list, avail, show, whatis}
use Rattle.requests.specs.Conditions.{end_objection}
use Rattle.requests.specs.Reports.{loaded_text, avail_text}
use Rattle.requests.specs.Steps.{RequestContext, Done, nothing_done, continued, module_of, joins, with_report}
use Rattle.requests.specs.Steps.{entries_of, modulepath, context_of, script_at, Finds, LoadsFound, LoadsName}
use Rattle.requests.specs.Steps.{UnloadsEntry, UnloadsMeant, last_meant, UnloadsName, ShowsName, shown_text}
use Rattle.requests.specs.Steps.{described_text, Each, NeedsNames, EndsRequest, ChangesLoaded, Switches, ShowsNames}
use Rattle.requests.specs.Steps.{ListsAvailable, RequestStep, old_name}
use Rattle.requests.proofs.Bound.{one_refused_as}

-- a default file leaves one thing
abbrev pub OneResult : Type 0
OneResult = (limits : Limits) (path text : Text) (o p : Option DefaultFileResult) → HasResult limits path text o → HasResult limits path text p → o ≡ p

pub one_run : files.OneOutcome → (limits : Limits) (c : FileContext) (text : Text) → IsOne (RefusedAs file_refused (RunsFile limits c text))
one_run file limits c text = one_refused_as {f = file_refused} {First = RunsFile limits c text} (file limits c text)

pub one_finds : OneResult → (s : RequestContext) (e : Environment) (name : Text) → IsOne (Finds s e name)
one_finds left s e name = one_refused_as {f = missed}
    {First = Found (HasResult s.limits) s.files s.listings (modulepath e) name}
    (one_module (HasResult s.limits) (left s.limits) s.files s.listings (modulepath e) name)

one_loads_found : files.OneOutcome → (s : RequestContext) (w : Bool) (typed : Text) (d : Done) (xs : List Entry) (m : search.FoundModule) → IsOne (LoadsFound s w typed d xs m)
one_loads_found file s w typed d xs m =
    one_if (has m.name (names_of xs)) (one_is (Ok d)) (
    one_then (one_run file s.limits (context_of s modes.load w typed m.name m.path xs d.env) m.text) (λ ran.
    one_is (joins d xs (module_of m.name m.path ran) ran.messages)))

one_load : files.OneOutcome → OneResult → (s : RequestContext) (w : Bool) (typed : Text) (d : Done) → IsOne (LoadsName s w typed d)
one_load file left s w typed d =
    one_then (one_is (entries_of d.env)) (λ xs.
    one_if (has typed (names_of xs)) (one_is (Ok d)) (
    one_then (one_finds left s d.env typed) (one_loads_found file s w typed d xs)))

one_entry : files.OneOutcome → (s : RequestContext) (w : Bool) (typed : Text) (d : Done) (xs : List Entry) (x : Entry) → IsOne (UnloadsEntry s w typed d xs x)
one_entry file s w typed d xs x =
    one_then (one_is (script_at x.path (modulefile (s.files x.path)))) (λ text.
    one_then (one_run file s.limits (context_of s modes.unload w typed x.name x.path xs d.env) text) (λ ran.
    one_is (continued d (Unloads (module_of x.name x.path ran)) ran.messages)))

one_meant : files.OneOutcome → (s : RequestContext) (w : Bool) (typed : Text) (d : Done) (xs : List Entry) (x : Option Entry) → IsOne (UnloadsMeant s w typed d xs x)
one_meant file s w typed d xs None = one_is (Ok d)
one_meant file s w typed d xs (Some x) = one_entry file s w typed d xs x

one_unload : files.OneOutcome → (s : RequestContext) (w : Bool) (typed : Text) (d : Done) → IsOne (UnloadsName s w typed d)
one_unload file s w typed d =
    one_then (one_is (entries_of d.env)) (λ xs.
    one_if (is_module_name typed) (one_meant file s w typed d xs (last_meant typed xs)) (one_is (Err (missed (bad_name typed)))))

one_show : files.OneOutcome → OneResult → (s : RequestContext) (mode : Mode) (text_of : search.FoundModule → List Record → Text) (typed : Text) (d : Done) → IsOne (ShowsName s mode text_of typed d)
one_show file left s mode text_of typed d =
    one_then (one_is (entries_of d.env)) (λ xs.
    one_then (one_finds left s d.env typed) (λ m.
    one_then (one_run file s.limits (context_of s mode false typed m.name m.path xs d.env) m.text) (λ ran.
    one_is (Ok (with_report d ran.messages (text_of m ran.records))))))

one_each : (Does : Text → Done → Result Done RequestReason → Type 0) → ((name : Text) (d : Done) → IsOne (Does name d)) → (names : List Text) (d : Done) → IsOne (Each Does names d)
one_each Does u [] d = one_is (Ok d)
one_each Does u (name ∷ names) d = one_then {First = Does name d} {Rest = Each Does names} (u name d) (one_each Does u names)

one_named : (names : List Text) (Does : Result Done RequestReason → Type 0) → IsOne Does → IsOne (NeedsNames names Does)
one_named [] Does u = one_is (Err bad_arguments)
one_named (name ∷ names) Does u = u

one_end : (before : List Entry) (d : Done) → IsOne (EndsRequest before d)
one_end before d = one_then (one_is (entries_of d.env)) (λ after. one_is (unless (end_objection before after) (Ok d)))

one_changes : (e : Environment) (Does : List Entry → Done → Result Done RequestReason → Type 0) → ((before : List Entry) (d : Done) → IsOne (Does before d)) → IsOne (ChangesLoaded e Does)
one_changes e Does u =
    one_then {First = Is (entries_of e)} {Rest = λ before. Then (Does before (nothing_done e)) (EndsRequest before)} (one_is (entries_of e)) (λ before.
    one_then {First = Does before (nothing_done e)} {Rest = EndsRequest before} (u before (nothing_done e)) (one_end before))

one_switch : files.OneOutcome → OneResult → (s : RequestContext) (old : Option Text) (new : Text) (d : Done) → IsOne (Switches s old new d)
one_switch file left s old new d =
    one_then {First = UnloadsName s true (old_name old new) d} {Rest = LoadsName s true new} (one_unload file s true (old_name old new) d) (one_load file left s true new)

one_shown : files.OneOutcome → OneResult → (s : RequestContext) (mode : Mode)
    (text_of : search.FoundModule → List Record → Text) (e : Environment) (names : List Text)
    → IsOne (ShowsNames s mode text_of e names)
one_shown file left s mode text_of e names =
    one_then {First = Is (entries_of e)} {Rest = λ xs. Each (ShowsName s mode text_of) names (nothing_done e)} (one_is (entries_of e)) (λ xs.
    one_each (ShowsName s mode text_of) (one_show file left s mode text_of) names (nothing_done e))

one_lists : (s : RequestContext) (e : Environment) (texts : List Text) → IsOne (ListsAvailable s e texts)
one_lists s e texts o p (ls, h, g) (ks, k, f) =
    g ∙ (ap (λ x. Ok (with_report (nothing_done e) [] (avail_text x))) (one_listed (HasResult s.limits) s.files s.listings texts (modulepath e) ls ks h k) ∙ sym f)

pub one_step : files.OneOutcome → OneResult → (s : RequestContext) (e : Environment) (asked : RequestedAction) → IsOne (RequestStep s e asked)
one_step file left s e (load names) =
    one_named names (ChangesLoaded e (λ before. Each (LoadsName s false) names))
    (one_changes e (λ before. Each (LoadsName s false) names)
    (λ before. one_each (LoadsName s false) (one_load file left s false) names))
one_step file left s e (unload names) =
    one_named names (ChangesLoaded e (λ before. Each (UnloadsName s false) names))
    (one_changes e (λ before. Each (UnloadsName s false) names)
    (λ before. one_each (UnloadsName s false) (one_unload file s false) names))
one_step file left s e (switch old new) =
    one_changes e (λ before. Switches s old new) (λ before. one_switch file left s old new)
one_step file left s e purge =
    one_changes e (λ before. Each (UnloadsName s false) (reverse (names_of before))) (λ before. one_each (UnloadsName s false) (one_unload file s false) (reverse (names_of before)))
one_step file left s e list = one_then (one_is (entries_of e)) (λ xs. one_is (Ok (with_report (nothing_done e) [] (loaded_text (names_of xs)))))
one_step file left s e (avail texts) = one_lists s e texts
one_step file left s e (show names) = one_named names (ShowsNames s modes.display shown_text e names) (one_shown file left s modes.display shown_text e names)
one_step file left s e (whatis names) = one_named names (ShowsNames s modes.whatis described_text e names) (one_shown file left s modes.whatis described_text e names)
