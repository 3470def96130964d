-- Each load of an accepted request was admitted, and the records of each move are those that the file of its module made.
use Rattle.std.proofs.Common.{◌≡◌, Bool, true, false, List, [], ◌∷◌, ◌++◌, Option, Some, None, Result, Ok, Err, refl}
use Rattle.std.proofs.Common.{sym, subst, reverse}
use Rattle.modulename.specs.ModuleName.{is_module_name}
use Rattle.envvars.specs.Texts.{Text, has}
use Rattle.envvars.specs.Environment.{Environment}
use Rattle.envstate.specs.loaded_list.Loaded.{Entry, names_of, loaded_in}
use Rattle.shelltext.specs.declared.shell.Shell.{Shell}
use Rattle.filetree.specs.Modulefiles.{script, modulefile}
use Rattle.filetree.specs.Relations.{Is, Then, If}
use Rattle.modulefile.specs.Records.{Record}
use Rattle.modulefile.specs.Effects as modes
use Rattle.modulefile.specs.Effects.{Mode}
use Rattle.modulefile.specs.Moves.{Move, Loads, Unloads, moved}
use Rattle.modulefile.specs.Moves as moves
use Rattle.modulefile.specs.Files.{Ran}
use Rattle.search.specs.Reasons.{bad_name}
use Rattle.search.specs.Found as search
use Rattle.requests.specs.Refusals.{refused_as}
use Rattle.requests.specs.Reasons.{RequestReason, bad_arguments, missed, refused_edit}
use Rattle.requests.specs.Requests.{RequestedAction, Request, load, unload, switch, purge, list, avail, show, whatis}
use Rattle.requests.specs.Conditions.{load_objection, end_objection}
use Rattle.requests.specs.Steps.{RequestContext, Done, nothing_done, with_move, continued, module_of, context_of}
use Rattle.requests.specs.Steps.{LoadsFound, LoadsName, UnloadsMeant, last_meant, UnloadsName, ShowsName, shown_text}
use Rattle.requests.specs.Steps.{described_text, Each, NeedsNames, EndsRequest, ChangesLoaded, Switches, ShowsNames}
use Rattle.requests.specs.Steps.{RequestStep, old_name, entries_of, consistent}
use Rattle.requests.specs.PlainRuns.{HasEvaluatedTo}
use Rattle.requests.specs.Sessions.{Response, accepted, refused, given_up, IsResponse, env_after, end_environment}
use Rattle.requests.specs.Sessions.{in_shell, Session, session_moves}
use Rattle.audit_laws.specs.site.Admitted.{IsAdmitted, AdmittedMovesReach}
use Rattle.audit_laws.specs.site.Laws.{StepsAreAdmitted, SessionsAreAdmitted}
use Rattle.requests.proofs.Bound.{bound, ok_of_refused_as, allowed, went_on}
use Rattle.audit_laws.proofs.site.Parts.{ran_ok, script_held, found_script}

-- the mode in which a move's file is evaluated
abbrev pub mode_of : Move → Mode
mode_of (Loads m) = modes.load
mode_of (Unloads m) = modes.unload

-- the records of a move are those that the file of its module made, by an evaluation in this environment
abbrev pub IsFrom : RequestContext → Move → Environment → Type 0
IsFrom s m old =
    (ran : Ran) × (left : HasEvaluatedTo s (moves.module_of_move m).name (moves.module_of_move m).path ran)
    × ((moves.module_of_move m).records ≡ ran.records) × (left.context.before ≡ old) × (left.context.mode ≡ mode_of m)

-- the moves, with what is known of each
abbrev pub TracedReach : RequestContext → List Move → Environment → Environment → Type 0
TracedReach s [] old new = new ≡ old
TracedReach s (m ∷ ms) old new =
    (IsAdmitted m old × IsFrom s m old) × ((mid : Environment) × (moved m old ≡ Ok mid) × TracedReach s ms mid new)

more : (s : RequestContext) (ms : List Move) (m : Move) (e d t : Environment) → TracedReach s ms e d → IsAdmitted m d
    → IsFrom s m d → moved m d ≡ Ok t → TracedReach s (ms ++ m ∷ []) e t
more s [] m e d t h a f k = ((subst (λ x. IsAdmitted m x) h a, subst (λ x. IsFrom s m x) h f), (t, subst (λ x. moved m x ≡ Ok t) h k, refl))
more s (x ∷ ms) m e d t h a f k = (h.0, (h.1.0, h.1.1, more s ms m h.1.0 d t h.1.2 a f k))

pub both : (s : RequestContext) (ms ns : List Move) (e d t : Environment) → TracedReach s ms e d → TracedReach s ns d t → TracedReach s (ms ++ ns) e t
both s [] ns e d t h k = subst (λ x. TracedReach s ns x t) h k
both s (m ∷ ms) ns e d t h k = (h.0, (h.1.0, h.1.1, both s ms ns h.1.0 d t h.1.2 k))

-- ---- steps

abbrev IsTraced : RequestContext → Environment → Done → Type 0
IsTraced s e d = TracedReach s d.moves e d.env

abbrev Traces : RequestContext → Environment → (Result Done RequestReason → Type 0) → Type 0
Traces s e Comes = (d : Done) → Comes (Ok d) → IsTraced s e d

trace_went : (s : RequestContext) (e : Environment) (d : Done) (m : Move) (messages : List Text) → IsAdmitted m d.env
    → IsFrom s m d.env → IsTraced s e d → Traces s e (Is (continued d m messages))
trace_went s e d m messages admitted from by_moves t h =
    let b = bound (refused_as refused_edit (moved m d.env)) (λ x. Ok (with_move d m messages x)) t (sym h) in
    let same : with_move d m messages b.0 ≡ t = cc in
    subst (λ x. IsTraced s e x) same (more s d.moves m e d.env b.0 by_moves admitted from (ok_of_refused_as refused_edit (moved m d.env) b.0 b.1))

list_read : (o : Option (List Entry)) (xs : List Entry) → Ok xs ≡ consistent o → o ≡ Some xs
list_read None xs h = absurd (cc)
list_read (Some ys) xs h = cc

trace_same : (s : RequestContext) (e : Environment) (d : Done) → IsTraced s e d → Traces s e (Is (Ok d))
trace_same s e d by_moves t h = let same : d ≡ t = cc in subst (λ x. IsTraced s e x) same by_moves

trace_then : {A : Type 0} {First : Result A RequestReason → Type 0} {Rest : A → Result Done RequestReason → Type 0}
    (s : RequestContext) (e : Environment) → ((x : A) → First (Ok x) → Traces s e (Rest x))
    → Traces s e (Then First Rest)
trace_then {First = First} {Rest = Rest} s e traces t h = let g = went_on First Rest t h in traces g.0 g.1 t g.2

trace_if : (s : RequestContext) (e : Environment) (test : Bool) (Yes No : Result Done RequestReason → Type 0) → Traces s e Yes → Traces s e No → Traces s e (If test Yes No)
trace_if s e true Yes No k l = k
trace_if s e false Yes No k l = l

trace_refused : (s : RequestContext) (e : Environment) (r : RequestReason) → Traces s e (Is (Err r))
trace_refused s e r t h = absurd (let g : Ok t ≡ Err r = h in cc)

trace_found : (s : RequestContext) (w : Bool) (typed : Text) (e : Environment) (d : Done) (xs : List Entry)
    (m : search.FoundModule) → loaded_in d.env ≡ Some xs → modulefile (s.files m.path) ≡ script m.text → IsTraced s e d
    → Traces s e (LoadsFound s w typed d xs m)
trace_found s w typed e d xs m read file by_moves =
    trace_if s e (has m.name (names_of xs)) _ _ (trace_same s e d by_moves) (trace_then s e (λ ran h.
    λ t g. let a = allowed (load_objection m.name ran.records xs) (continued d (Loads (module_of m.name m.path ran)) ran.messages) t (sym g) in
    trace_went s e d (Loads (module_of m.name m.path ran)) ran.messages (xs, read, a.0) (
      ran,
      record {
        text = m.text;
        file = file;
        context = context_of s modes.load w typed m.name m.path xs d.env;
        named =
            refl;
        at_path = refl;
        runs = ran_ok s (context_of s modes.load w typed m.name m.path xs d.env) m.text ran h;
      },
      refl,
      refl,
      refl,
    )
    by_moves t (sym a.1)))

trace_load : (s : RequestContext) (w : Bool) (e : Environment) (typed : Text) (d : Done) → IsTraced s e d → Traces s e (LoadsName s w typed d)
trace_load s w e typed d by_moves =
    trace_then s e (λ xs h.
    trace_if s e (has typed (names_of xs)) _ _ (trace_same s e d by_moves) (trace_then s e (λ m g.
    trace_found s w typed e d xs m (list_read (loaded_in d.env) xs h) (found_script s d.env typed m g) by_moves)))

trace_meant : (s : RequestContext) (w : Bool) (typed : Text) (e : Environment) (d : Done) (xs : List Entry) (x : Option Entry) → IsTraced s e d → Traces s e (UnloadsMeant s w typed d xs x)
trace_meant s w typed e d xs None by_moves = trace_same s e d by_moves
trace_meant s w typed e d xs (Some x) by_moves =
    trace_then s e (λ text h. trace_then s e (λ ran g.
    trace_went s e d (Unloads (module_of x.name x.path ran)) ran.messages tt (
      ran,
      record {
        text = text;
        file = script_held x.path text (modulefile (s.files x.path)) h;
        context = context_of s
            modes.unload w typed x.name x.path xs d.env;
        named = refl;
        at_path = refl;
        runs = ran_ok s
            (context_of s modes.unload w typed x.name x.path xs d.env) text ran g;
      },
      refl,
      refl,
      refl,
    )
    by_moves))

trace_unload : (s : RequestContext) (w : Bool) (e : Environment) (typed : Text) (d : Done) → IsTraced s e d → Traces s e (UnloadsName s w typed d)
trace_unload s w e typed d by_moves =
    trace_then s e (λ xs h.
    trace_if s e (is_module_name typed) _ _ (trace_meant s w typed e d xs (last_meant typed xs) by_moves) (trace_refused s e (missed (bad_name typed))))

trace_show : (s : RequestContext) (mode : Mode) (text_of : search.FoundModule → List Record → Text) (e : Environment)
    (typed : Text) (d : Done) → IsTraced s e d → Traces s e (ShowsName s mode text_of typed d)
trace_show s mode text_of e typed d by_moves =
    trace_then s e (λ xs h. trace_then s e (λ m g. trace_then s e (λ ran f. trace_same s e _ by_moves)))

trace_each : (s : RequestContext) (e : Environment) (Does : Text → Done → Result Done RequestReason → Type 0)
    → ((name : Text) (d : Done) → IsTraced s e d → Traces s e (Does name d)) → (names : List Text) (d : Done)
    → IsTraced s e d → Traces s e (Each Does names d)
trace_each s e Does traces [] d by_moves = trace_same s e d by_moves
trace_each s e Does traces (name ∷ names) d by_moves =
    trace_then s e (λ t h. trace_each s e Does traces names t (traces name d by_moves t h))

trace_named : (s : RequestContext) (e : Environment) (names : List Text) (Does : Result Done RequestReason → Type 0) → Traces s e Does → Traces s e (NeedsNames names Does)
trace_named s e [] Does traces = trace_refused s e bad_arguments
trace_named s e (name ∷ names) Does traces = traces

trace_end : (s : RequestContext) (e : Environment) (before : List Entry) (d : Done) → IsTraced s e d → Traces s e (EndsRequest before d)
trace_end s e before d by_moves =
    trace_then s e (λ after h. λ t g. trace_same s e d by_moves t (sym (allowed (end_objection before after) (Ok d) t (sym g)).1))

trace_changes : (s : RequestContext) (e : Environment) (Does : List Entry → Done → Result Done RequestReason → Type 0)
    → ((before : List Entry) (d : Done) → IsTraced s e d → Traces s e (Does before d))
    → Traces s e (ChangesLoaded e Does)
trace_changes s e Does traces =
    trace_then s e (λ before h. trace_then s e (λ d g. trace_end s e before d (traces before (nothing_done e) refl d g)))

trace_switch : (s : RequestContext) (e : Environment) (old : Option Text) (new : Text) (d : Done) → IsTraced s e d → Traces s e (Switches s old new d)
trace_switch s e old new d by_moves =
    trace_then {First = UnloadsName s true (old_name old new) d} {Rest = LoadsName s true new} s e (λ t h. trace_load s true e new t (trace_unload s true e (old_name old new) d by_moves t h))

trace_shown : (s : RequestContext) (mode : Mode) (text_of : search.FoundModule → List Record → Text) (e : Environment) (names : List Text) → Traces s e (ShowsNames s mode text_of e names)
trace_shown s mode text_of e names =
    trace_then {First = Is (entries_of e)} {Rest = λ xs. Each (ShowsName s mode text_of) names (nothing_done e)} s e
    (λ xs h. trace_each s e (ShowsName s mode text_of) (trace_show s mode text_of e) names (nothing_done e) refl)

pub traced : (s : RequestContext) (e : Environment) (action : RequestedAction) → Traces s e (RequestStep s e action)
traced s e (load names) =
    trace_named s e names (ChangesLoaded e (λ before. Each (LoadsName s false) names))
    (trace_changes s e (λ before. Each (LoadsName s false) names)
    (λ before d by_moves. trace_each s e (LoadsName s false) (trace_load s false e) names d by_moves))
traced s e (unload names) =
    trace_named s e names (ChangesLoaded e (λ before. Each (UnloadsName s false) names))
    (trace_changes s e (λ before. Each (UnloadsName s false) names)
    (λ before d by_moves. trace_each s e (UnloadsName s false) (trace_unload s false e) names d by_moves))
traced s e (switch old new) =
    trace_changes s e (λ before. Switches s old new) (λ before d by_moves. trace_switch s e old new d by_moves)
traced s e purge =
    trace_changes s e (λ before. Each (UnloadsName s false) (reverse (names_of before)))
    (λ before d by_moves. trace_each s e (UnloadsName s false) (trace_unload s false e) (reverse (names_of before))
    d by_moves)
traced s e list = trace_then s e (λ xs h. trace_same s e _ refl)
traced s e (avail texts) = λ d h. trace_same s e _ refl d h.2
traced s e (show names) = trace_named s e names (ShowsNames s modes.display shown_text e names) (trace_shown s modes.display shown_text e names)
traced s e (whatis names) = trace_named s e names (ShowsNames s modes.whatis described_text e names) (trace_shown s modes.whatis described_text e names)

-- ---- sessions

pub any_shell : (s : RequestContext) (shell : Shell) (ms : List Move) (e d : Environment) → TracedReach (in_shell s shell) ms e d → TracedReach s ms e d
any_shell s shell [] e d h = h
any_shell s shell (m ∷ ms) e d ((admitted, (ran, left, is, before, mode)), (mid, move, rest)) = (
  (
    admitted,
    (
      ran,
      record {
        text = left.text;
        file = left.file;
        context = left.context;
        named = left.named;
        at_path =
            left.at_path;
        runs = left.runs;
      },
      is,
      before,
      mode,
    ),
  ),
  (mid, move, any_shell s shell ms mid d rest),
)

response_traced : (s : RequestContext) (e : Environment) (r : Request) (o : Response) (os : List Response)
    (t : Environment) → IsResponse (in_shell s r.0) e r.1 o → TracedReach s (session_moves os) (env_after e o) t
    → TracedReach s (session_moves (o ∷ os)) e t
response_traced s e r (accepted d) os t h k = both s d.moves (session_moves os) e d.env t (any_shell s r.0 d.moves e d.env (traced (in_shell s r.0) e r.1 d h)) k
response_traced s e r (refused reason) os t h k = k
response_traced s e r (given_up n) os t h k = k

pub session_traced : (s : RequestContext) (e : Environment) (rs : List Request) (os : List Response) → Session s e rs os → TracedReach s (session_moves os) e (end_environment e os)
session_traced s e [] [] h = refl
session_traced s e [] (o ∷ os) h = absurd h
session_traced s e (r ∷ rs) [] h = absurd h
session_traced s e (r ∷ rs) (o ∷ os) h = response_traced s e r o os (end_environment (env_after e o) os) h.0 (session_traced s (env_after e o) rs os h.1)

-- ---- the laws

admitted_reach : (s : RequestContext) (ms : List Move) (e d : Environment) → TracedReach s ms e d → AdmittedMovesReach ms e d
admitted_reach s [] e d h = h
admitted_reach s (m ∷ ms) e d h = (h.0.0, (h.1.0, h.1.1, admitted_reach s ms h.1.0 d h.1.2))

pub steps_are_admitted : StepsAreAdmitted
steps_are_admitted s e action d h = admitted_reach s d.moves e d.env (traced s e action d h)

pub sessions_are_admitted : SessionsAreAdmitted
sessions_are_admitted s e rs os h = admitted_reach s (session_moves os) e (end_environment e os) (session_traced s e rs os h)
