-- The records of each move of a step are those that the file at its module's path made.
use Rattle.std.proofs.Common.{◌≡◌, Bool, true, false, List, [], ◌∷◌, ◌++◌, Option, Some, None, Result, Ok, Err, refl}
use Rattle.std.proofs.Common.{sym, subst, reverse}
use Rattle.modulename.specs.ModuleName.{is_module_name}
use Rattle.envvars.specs.Texts.{Text, has}
use Rattle.envvars.specs.Environment.{Environment}
use Rattle.envstate.specs.loaded_list.Loaded.{Entry, names_of}
use Rattle.filetree.specs.Modulefiles.{FileContent, absent, no_cookie, not_utf8, script, modulefile}
use Rattle.filetree.specs.Relations.{Is, Then, If}
use Rattle.modulefile.specs.Effects as modes
use Rattle.modulefile.specs.Moves.{Module, Move, Loads, Unloads, moved}
use Rattle.modulefile.specs.Moves as moves
use Rattle.modulefile.specs.Answers.{FileContext}
use Rattle.modulefile.specs.Files.{Ran, RunsFile}
use Rattle.lookup.specs.DefaultFileResults.{HasResult}
use Rattle.search.specs.Reasons.{bad_name}
use Rattle.search.specs.Found as search
use Rattle.search.specs.Found.{Found}
use Rattle.requests.specs.Refusals.{refused_as, RefusedAs}
use Rattle.requests.specs.Reasons.{RequestReason, bad_arguments, missed, file_refused, refused_edit}
use Rattle.requests.specs.Requests.{RequestedAction, load, unload, switch, purge, list, avail, show, whatis}
use Rattle.requests.specs.Conditions.{load_objection, end_objection}
use Rattle.requests.specs.Steps.{RequestContext, Done, nothing_done, with_move, continued, module_of, modulepath}
use Rattle.requests.specs.Steps.{context_of, Finds, script_at, LoadsFound, LoadsName, UnloadsMeant, last_meant}
use Rattle.requests.specs.Steps.{UnloadsName, Each, NeedsNames, EndsRequest, ChangesLoaded, Switches, RequestStep}
use Rattle.requests.specs.Steps.{old_name}
use Rattle.requests.specs.PlainRuns.{HasEvaluatedTo}
use Rattle.requests.proofs.Bound.{bound, ok_of_refused_as, allowed, went_on}
use Rattle.requests.specs.Laws.{Reports}
use Rattle.requests.proofs.Reporting.{reports_leave}
use Rattle.requests.proofs.FoundText.{IsScript, found_text}

-- the records are those that the file made
abbrev pub IsFrom : RequestContext → Module → Type 0
IsFrom s m = (ran : Ran) × HasEvaluatedTo s m.name m.path ran × (m.records ≡ ran.records)

abbrev pub AllFrom : RequestContext → List Move → Type 0
AllFrom s [] = Unit {0}
AllFrom s (m ∷ ms) = IsFrom s (moves.module_of_move m) × AllFrom s ms

pub all_both : (s : RequestContext) (ms ns : List Move) → AllFrom s ms → AllFrom s ns → AllFrom s (ms ++ ns)
all_both s [] ns h k = k
all_both s (m ∷ ms) ns h k = (h.0, all_both s ms ns h.1 k)

abbrev Traces : RequestContext → (Result Done RequestReason → Type 0) → Type 0
Traces s Comes = (d : Done) → Comes (Ok d) → AllFrom s d.moves

trace_same : (s : RequestContext) (d : Done) → AllFrom s d.moves → Traces s (Is (Ok d))
trace_same s d from t h = let same : d ≡ t = cc in subst (λ (x : Done). AllFrom s x.moves) same from

trace_refused : (s : RequestContext) (r : RequestReason) → Traces s (Is (Err r))
trace_refused s r t h = absurd (let g : Ok t ≡ Err r = h in cc)

trace_then : {A : Type 0} {First : Result A RequestReason → Type 0} {Rest : A → Result Done RequestReason → Type 0}
    (s : RequestContext) → ((x : A) → First (Ok x) → Traces s (Rest x)) → Traces s (Then First Rest)
trace_then {First = First} {Rest = Rest} s traces t h = let g = went_on First Rest t h in traces g.0 g.1 t g.2

trace_if : (s : RequestContext) (test : Bool) (One Other : Result Done RequestReason → Type 0) → Traces s One → Traces s Other → Traces s (If test One Other)
trace_if s true One Other k l = k
trace_if s false One Other k l = l

trace_went : (s : RequestContext) (d : Done) (m : Move) (messages : List Text) → AllFrom s d.moves → IsFrom s (moves.module_of_move m) → Traces s (Is (continued d m messages))
trace_went s d m messages from one t h =
    let b = bound (refused_as refused_edit (moved m d.env)) (λ x. Ok (with_move d m messages x)) t (sym h) in
    let same : with_move d m messages b.0 ≡ t = cc in
    subst (λ (x : Done). AllFrom s x.moves) same (all_both s d.moves (m ∷ []) from (one, tt))

as_ok : (s : RequestContext) (c : FileContext) (text : Text) (ran : Ran) → RefusedAs file_refused (RunsFile s.limits c text) (Ok ran) → RunsFile s.limits c text (Ok ran)
as_ok s c text ran h = subst (RunsFile s.limits c text) (ok_of_refused_as file_refused h.0 ran (sym h.2)) h.1

pub found_script : (s : RequestContext) (e : Environment) (name : Text) (m : search.FoundModule) → Finds s e name (Ok m) → IsScript s.files m
found_script s e name m h =
    found_text (HasResult s.limits) s.files s.listings (modulepath e) name m
    (subst (Found (HasResult s.limits) s.files s.listings (modulepath e) name) (ok_of_refused_as missed h.0 m (sym h.2)) h.1)

trace_found : (s : RequestContext) (w : Bool) (typed : Text) (d : Done) (xs : List Entry) (m : search.FoundModule) → IsScript s.files m → AllFrom s d.moves → Traces s (LoadsFound s w typed d xs m)
trace_found s w typed d xs m file from =
    trace_if s (has m.name (names_of xs)) _ _ (trace_same s d from) (trace_then s (λ ran h t g.
    trace_went s d (Loads (module_of m.name m.path ran)) ran.messages from (
      ran,
      record {
        text = m.text;
        file = file;
        context = context_of s modes.load w typed m.name m.path xs d.env;
        named =
            refl;
        at_path = refl;
        runs = as_ok s (context_of s modes.load w typed m.name m.path xs d.env) m.text ran h;
      },
      refl,
    )
    t (sym (allowed (load_objection m.name ran.records xs) (continued d (Loads (module_of m.name m.path ran)) ran.messages) t (sym g)).1)))

trace_load : (s : RequestContext) (w : Bool) (typed : Text) (d : Done) → AllFrom s d.moves → Traces s (LoadsName s w typed d)
trace_load s w typed d from =
    trace_then s (λ xs h.
    trace_if s (has typed (names_of xs)) _ _ (trace_same s d from) (trace_then s (λ m g.
    trace_found s w typed d xs m (found_script s d.env typed m g) from)))

script_held : (path text : Text) (held : FileContent) → Ok text ≡ script_at path held → held ≡ script text
script_held path text absent h = absurd (cc)
script_held path text no_cookie h = absurd (cc)
script_held path text not_utf8 h = absurd (cc)
script_held path text (script other) h = cc

trace_meant : (s : RequestContext) (w : Bool) (typed : Text) (d : Done) (xs : List Entry) (x : Option Entry) → AllFrom s d.moves → Traces s (UnloadsMeant s w typed d xs x)
trace_meant s w typed d xs None from = trace_same s d from
trace_meant s w typed d xs (Some x) from =
    trace_then s (λ text h. trace_then s (λ ran g.
    trace_went s d (Unloads (module_of x.name x.path ran)) ran.messages from (
      ran,
      record {
        text = text;
        file = script_held x.path text (modulefile (s.files x.path)) h;
        context = context_of s
            modes.unload w typed x.name x.path xs d.env;
        named = refl;
        at_path = refl;
        runs = as_ok s
            (context_of s modes.unload w typed x.name x.path xs d.env) text ran g;
      },
      refl,
    )))

trace_unload : (s : RequestContext) (w : Bool) (typed : Text) (d : Done) → AllFrom s d.moves → Traces s (UnloadsName s w typed d)
trace_unload s w typed d from =
    trace_then s (λ xs h.
    trace_if s (is_module_name typed) _ _ (trace_meant s w typed d xs (last_meant typed xs) from) (trace_refused s (missed (bad_name typed))))

trace_each : (s : RequestContext) (Does : Text → Done → Result Done RequestReason → Type 0)
    → ((name : Text) (d : Done) → AllFrom s d.moves → Traces s (Does name d)) → (names : List Text) (d : Done)
    → AllFrom s d.moves → Traces s (Each Does names d)
trace_each s Does traces [] d from = trace_same s d from
trace_each s Does traces (name ∷ names) d from =
    trace_then s (λ t h. trace_each s Does traces names t (traces name d from t h))

trace_named : (s : RequestContext) (names : List Text) (Does : Result Done RequestReason → Type 0) → Traces s Does → Traces s (NeedsNames names Does)
trace_named s [] Does traces = trace_refused s bad_arguments
trace_named s (name ∷ names) Does traces = traces

trace_end : (s : RequestContext) (before : List Entry) (d : Done) → AllFrom s d.moves → Traces s (EndsRequest before d)
trace_end s before d from =
    trace_then s (λ after h t g. trace_same s d from t (sym (allowed (end_objection before after) (Ok d) t (sym g)).1))

trace_changes : (s : RequestContext) (e : Environment) (Does : List Entry → Done → Result Done RequestReason → Type 0)
    → ((before : List Entry) (d : Done) → AllFrom s d.moves → Traces s (Does before d))
    → Traces s (ChangesLoaded e Does)
trace_changes s e Does traces =
    trace_then s (λ before h. trace_then s (λ d g. trace_end s before d (traces before (nothing_done e) tt d g)))

trace_switch : (s : RequestContext) (old : Option Text) (new : Text) (d : Done) → AllFrom s d.moves → Traces s (Switches s old new d)
trace_switch s old new d from =
    trace_then {First = UnloadsName s true (old_name old new) d} {Rest = LoadsName s true new} s (λ t h. trace_load s true new t (trace_unload s true (old_name old new) d from t h))

trace_report : (s : RequestContext) (e : Environment) (asked : RequestedAction) → Reports asked → Traces s (RequestStep s e asked)
trace_report s e asked r d h = subst (AllFrom s) (sym (reports_leave s e asked d r h).1) tt

pub traced : (s : RequestContext) (e : Environment) (asked : RequestedAction) → Traces s (RequestStep s e asked)
traced s e (load names) =
    trace_named s names (ChangesLoaded e (λ before. Each (LoadsName s false) names))
    (trace_changes s e (λ before. Each (LoadsName s false) names)
    (λ before d from. trace_each s (LoadsName s false) (trace_load s false) names d from))
traced s e (unload names) =
    trace_named s names (ChangesLoaded e (λ before. Each (UnloadsName s false) names))
    (trace_changes s e (λ before. Each (UnloadsName s false) names)
    (λ before d from. trace_each s (UnloadsName s false) (trace_unload s false) names d from))
traced s e (switch old new) =
    trace_changes s e (λ before. Switches s old new) (λ before d from. trace_switch s old new d from)
traced s e purge =
    trace_changes s e (λ before. Each (UnloadsName s false) (reverse (names_of before))) (λ before d from. trace_each s (UnloadsName s false) (trace_unload s false) (reverse (names_of before)) d from)
traced s e list = trace_report s e list tt
traced s e (avail texts) = trace_report s e (avail texts) tt
traced s e (show names) = trace_report s e (show names) tt
traced s e (whatis names) = trace_report s e (whatis names) tt
