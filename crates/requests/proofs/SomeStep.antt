-- A request has an outcome, since a search has one and an evaluation has one.
use Rattle.std.proofs.Common.{Bool, true, false, List, [], ◌∷◌, Option, Some, None, Result, Ok, Err, reverse}
use Rattle.modulename.specs.ModuleName.{is_module_name}
use Rattle.envvars.specs.Texts.{Text, has}
use Rattle.envvars.specs.Environment.{Environment}
use Rattle.envstate.specs.loaded_list.Loaded.{Entry, names_of}
use Rattle.filetree.specs.Modulefiles.{modulefile}
use Rattle.tclrules.specs.declared.limits.Limits.{Limits}
use Rattle.filetree.specs.Relations.{Is, Then}
use Rattle.modulefile.specs.Records.{Record}
use Rattle.modulefile.specs.Effects as modes
use Rattle.modulefile.specs.Effects.{Mode}
use Rattle.modulefile.specs.Moves.{Unloads}
use Rattle.modulefile.specs.Answers.{FileContext}
use Rattle.modulefile.specs.Files.{RunsFile}
use Rattle.modulefile.specs.Laws as files
use Rattle.lookup.specs.DefaultFileResults.{HasResult}
use Rattle.search.specs.DefaultFiles.{DefaultFileResult}
use Rattle.search.specs.Reasons.{bad_name}
use Rattle.search.specs.Found as search
use Rattle.search.specs.Found.{Found}
use Rattle.requests.specs.Refusals.{unless, RefusedAs}
use Rattle.requests.specs.Reasons.{RequestReason, bad_arguments, missed, file_refused}
use Rattle.requests.specs.Requests.{RequestedAction, load, unload, switch, purge, list, avail, show, whatis}
use Rattle.requests.specs.Conditions.{end_objection}
use Rattle.requests.specs.Reports.{loaded_text}
use Rattle.requests.specs.Steps.{RequestContext, Done, nothing_done, continued, module_of, joins, with_report}
use Rattle.requests.specs.Steps.{entries_of, modulepath, context_of, script_at, Finds, LoadsFound, LoadsName}
use Rattle.requests.specs.Steps.{UnloadsMeant, last_meant, UnloadsName, ShowsName, shown_text, described_text, Each}
use Rattle.requests.specs.Steps.{NeedsNames, EndsRequest, ChangesLoaded, Switches, ShowsNames, RequestStep, old_name}
use Rattle.requests.specs.Laws.{IsNotAvail}
use Rattle.requests.proofs.SomeFound.{IsSome, some_is, some_then, some_if, some_refused_as, some_found}

-- a default file leaves something
abbrev pub SomeLeft : Type 0
SomeLeft = (limits : Limits) (path text : Text) → (o : Option DefaultFileResult) × HasResult limits path text o

pub some_run : files.SomeOutcome → (limits : Limits) (c : FileContext) (text : Text) → IsSome (RefusedAs file_refused (RunsFile limits c text))
some_run file limits c text = some_refused_as {f = file_refused} {First = RunsFile limits c text} (file limits c text)

pub some_finds : SomeLeft → (s : RequestContext) (e : Environment) (name : Text) → IsSome (Finds s e name)
some_finds left s e name = some_refused_as {f = missed}
    {First = Found (HasResult s.limits) s.files s.listings (modulepath e) name}
    (some_found (HasResult s.limits) (left s.limits) s.files s.listings (modulepath e) name)

some_loads_found : files.SomeOutcome → (s : RequestContext) (w : Bool) (typed : Text) (d : Done) (xs : List Entry) (m : search.FoundModule) → IsSome (LoadsFound s w typed d xs m)
some_loads_found file s w typed d xs m =
    some_if (has m.name (names_of xs)) (some_is (Ok d)) (
    some_then (some_run file s.limits (context_of s modes.load w typed m.name m.path xs d.env) m.text) (λ ran.
    some_is (joins d xs (module_of m.name m.path ran) ran.messages)))

some_load : files.SomeOutcome → SomeLeft → (s : RequestContext) (w : Bool) (typed : Text) (d : Done) → IsSome (LoadsName s w typed d)
some_load file left s w typed d =
    some_then (some_is (entries_of d.env)) (λ xs.
    some_if (has typed (names_of xs)) (some_is (Ok d)) (
    some_then (some_finds left s d.env typed) (some_loads_found file s w typed d xs)))

some_meant : files.SomeOutcome → (s : RequestContext) (w : Bool) (typed : Text) (d : Done) (xs : List Entry) (x : Option Entry) → IsSome (UnloadsMeant s w typed d xs x)
some_meant file s w typed d xs None = some_is (Ok d)
some_meant file s w typed d xs (Some x) =
    some_then (some_is (script_at x.path (modulefile (s.files x.path)))) (λ text.
    some_then (some_run file s.limits (context_of s modes.unload w typed x.name x.path xs d.env) text) (λ ran.
    some_is (continued d (Unloads (module_of x.name x.path ran)) ran.messages)))

some_unload : files.SomeOutcome → (s : RequestContext) (w : Bool) (typed : Text) (d : Done) → IsSome (UnloadsName s w typed d)
some_unload file s w typed d =
    some_then (some_is (entries_of d.env)) (λ xs.
    some_if (is_module_name typed) (some_meant file s w typed d xs (last_meant typed xs)) (some_is (Err (missed (bad_name typed)))))

some_show : files.SomeOutcome → SomeLeft → (s : RequestContext) (mode : Mode) (text_of : search.FoundModule → List Record → Text) (typed : Text) (d : Done) → IsSome (ShowsName s mode text_of typed d)
some_show file left s mode text_of typed d =
    some_then (some_is (entries_of d.env)) (λ xs.
    some_then (some_finds left s d.env typed) (λ m.
    some_then (some_run file s.limits (context_of s mode false typed m.name m.path xs d.env) m.text) (λ ran.
    some_is (Ok (with_report d ran.messages (text_of m ran.records))))))

some_each : (Does : Text → Done → Result Done RequestReason → Type 0) → ((name : Text) (d : Done) → IsSome (Does name d)) → (names : List Text) (d : Done) → IsSome (Each Does names d)
some_each Does u [] d = some_is (Ok d)
some_each Does u (name ∷ names) d = some_then {First = Does name d} {Rest = Each Does names} (u name d) (some_each Does u names)

some_named : (names : List Text) (Does : Result Done RequestReason → Type 0) → IsSome Does → IsSome (NeedsNames names Does)
some_named [] Does u = some_is (Err bad_arguments)
some_named (name ∷ names) Does u = u

some_end : (before : List Entry) (d : Done) → IsSome (EndsRequest before d)
some_end before d = some_then (some_is (entries_of d.env)) (λ after. some_is (unless (end_objection before after) (Ok d)))

some_changes : (e : Environment) (Does : List Entry → Done → Result Done RequestReason → Type 0) → ((before : List Entry) (d : Done) → IsSome (Does before d)) → IsSome (ChangesLoaded e Does)
some_changes e Does u =
    some_then {First = Is (entries_of e)} {Rest = λ before. Then (Does before (nothing_done e)) (EndsRequest before)} (some_is (entries_of e)) (λ before.
    some_then {First = Does before (nothing_done e)} {Rest = EndsRequest before} (u before (nothing_done e)) (some_end before))

some_switch : files.SomeOutcome → SomeLeft → (s : RequestContext) (old : Option Text) (new : Text) (d : Done) → IsSome (Switches s old new d)
some_switch file left s old new d =
    some_then {First = UnloadsName s true (old_name old new) d} {Rest = LoadsName s true new} (some_unload file s true (old_name old new) d) (some_load file left s true new)

some_shown : files.SomeOutcome → SomeLeft → (s : RequestContext) (mode : Mode)
    (text_of : search.FoundModule → List Record → Text) (e : Environment) (names : List Text)
    → IsSome (ShowsNames s mode text_of e names)
some_shown file left s mode text_of e names =
    some_then {First = Is (entries_of e)} {Rest = λ xs. Each (ShowsName s mode text_of) names (nothing_done e)} (some_is (entries_of e)) (λ xs.
    some_each (ShowsName s mode text_of) (some_show file left s mode text_of) names (nothing_done e))

pub some_step : files.SomeOutcome → SomeLeft → (s : RequestContext) (e : Environment) (asked : RequestedAction) → IsNotAvail asked → IsSome (RequestStep s e asked)
some_step file left s e (load names) n =
    some_named names (ChangesLoaded e (λ before. Each (LoadsName s false) names))
    (some_changes e (λ before. Each (LoadsName s false) names)
    (λ before. some_each (LoadsName s false) (some_load file left s false) names))
some_step file left s e (unload names) n =
    some_named names (ChangesLoaded e (λ before. Each (UnloadsName s false) names))
    (some_changes e (λ before. Each (UnloadsName s false) names)
    (λ before. some_each (UnloadsName s false) (some_unload file s false) names))
some_step file left s e (switch old new) n =
    some_changes e (λ before. Switches s old new) (λ before. some_switch file left s old new)
some_step file left s e purge n =
    some_changes e (λ before. Each (UnloadsName s false) (reverse (names_of before))) (λ before. some_each (UnloadsName s false) (some_unload file s false) (reverse (names_of before)))
some_step file left s e list n = some_then (some_is (entries_of e)) (λ xs. some_is (Ok (with_report (nothing_done e) [] (loaded_text (names_of xs)))))
some_step file left s e (avail texts) n = absurd n
some_step file left s e (show names) n = some_named names (ShowsNames s modes.display shown_text e names) (some_shown file left s modes.display shown_text e names)
some_step file left s e (whatis names) n = some_named names (ShowsNames s modes.whatis described_text e names) (some_shown file left s modes.whatis described_text e names)
