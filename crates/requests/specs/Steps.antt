-- The step of a request: what it makes of an environment, over the files and directories of a tree (module(1)). The
-- step also says which moves lead to that environment.
use Rattle.std.specs.Prelude.{◌≡◌, Bool, true, false, List, [], ◌∷◌, ◌++◌, codes, reverse, find, unwrap_or, Option}
use Rattle.std.specs.Prelude.{Some, None, Result, Ok, Err}
use Rattle.modulename.specs.ModuleName.{is_module_name, means, parts}
use Rattle.envvars.specs.Texts.{Text, has}
use Rattle.envvars.specs.Environment.{Environment, lookup}
use Rattle.envvars.specs.Reasons as edits
use Rattle.envstate.specs.loaded_list.Loaded.{Entry, names_of, loaded_in}
use Rattle.tclrules.specs.declared.limits.Limits.{Limits}
use Rattle.shelltext.specs.declared.shell.Shell.{Shell}
use Rattle.filetree.specs.Agreement.{Files, Listings}
use Rattle.filetree.specs.Modulefiles.{FileContent, absent, no_cookie, not_utf8, script, modulefile}
use Rattle.filetree.specs.Relations.{Is, If, ◌>>◌}
use Rattle.modulefile.specs.Records.{Record}
use Rattle.modulefile.specs.Judgments.{bad_edit}
use Rattle.modulefile.specs.Effects as modes
use Rattle.modulefile.specs.Effects.{Mode}
use Rattle.modulefile.specs.Moves.{Module, Move, Loads, Unloads, moved}
use Rattle.modulefile.specs.Results.{◌>>=◌}
use Rattle.modulefile.specs.Answers.{FileContext}
use Rattle.modulefile.specs.Files.{Ran, RunsFile}
use Rattle.modulefile.specs.Reports.{show_text, whatis_text}
use Rattle.lookup.specs.DefaultFileResults.{HasResult}
use Rattle.search.specs.Reasons.{bad_name, not_utf8_at}
use Rattle.search.specs.Found as search
use Rattle.search.specs.Found.{Found}
use Rattle.search.specs.Listed.{Listing, Listed}
use Rattle.requests.specs.Refusals.{refused_as, unless, RefusedAs}
use Rattle.requests.specs.Reasons.{RequestReason, bad_arguments, missed, file_gone, not_a_modulefile, file_refused}
use Rattle.requests.specs.Reasons.{refused_edit}
use Rattle.requests.specs.Requests.{RequestedAction, load, unload, switch, purge, list, avail, show, whatis}
use Rattle.requests.specs.Conditions.{load_objection, end_objection}
use Rattle.requests.specs.Reports.{loaded_text, avail_text}

-- What a request is run over: the files and directories of a tree, the limits on the evaluation of each file, and the
-- shell that reads what is printed.
pub record RequestContext : Type 0 where
  pub files : Files
  pub listings : Listings
  pub limits : Limits
  pub shell : Shell

-- what a request is run over, by its parts
abbrev pub request_context_in : Limits → Shell → Files → Listings → RequestContext
request_context_in limits shell files listings = record
    { files = files; listings = listings; limits = limits; shell = shell }

-- What a request has done so far: the environment that its moves made, the moves in their order, the messages of the
-- modulefiles that it evaluated, and its report.
-- The type `RequestResults` of modules has no environment: the call edits the variables that it is given.
pub record Done : Type 0 where
  pub env : Environment
  pub moves : List Move
  pub messages : List Text
  pub report : Text

-- nothing done yet
abbrev pub nothing_done : Environment → Done
nothing_done e = record { env = e; moves = []; messages = []; report = [] }

-- one move more, which makes this environment
abbrev pub with_move : Done → Move → List Text → Environment → Done
with_move d move messages e =
    record { env = e; moves = d.moves ++ move ∷ []; messages = d.messages ++ messages; report = d.report }

-- the move is made, or refused as an edit of the environment
abbrev pub continued : Done → Move → List Text → Result Done RequestReason
continued d move messages = refused_as refused_edit (moved move d.env) >>= (λ e. Ok (with_move d move messages e))

-- the report with this text after it
abbrev pub with_report : Done → List Text → Text → Done
with_report d messages text =
    record { env = d.env; moves = d.moves; messages = d.messages ++ messages; report = d.report ++ text }

-- the loaded modules, or the reason that the loaded lists don't fit together
abbrev pub consistent : Option (List Entry) → Result (List Entry) RequestReason
consistent None = Err (refused_edit (bad_edit edits.inconsistent))
consistent (Some xs) = Ok xs

-- the loaded modules of an environment
abbrev pub entries_of : Environment → Result (List Entry) RequestReason
entries_of e = consistent (loaded_in e)

-- the MODULEPATH of an environment; empty where it is unset
abbrev pub modulepath : Environment → Text
modulepath e = unwrap_or (lookup e (codes "MODULEPATH")) []

-- the context in which the file of this name and path is evaluated
abbrev pub context_of : RequestContext → Mode → Bool → Text → Text → Text → List Entry → Environment → FileContext
context_of s mode in_switch typed name path xs e =
    record {
      mode = mode;
      in_switch = in_switch;
      name = name;
      path = path;
      shell = s.shell;
      typed = typed;
      loaded = names_of xs;
      before = e;
    }

-- the module with the records that its file made
abbrev pub module_of : Text → Text → Ran → Module
module_of name path ran = record { name = name; path = path; records = ran.records }

-- what a name means in an environment, by the search along its MODULEPATH
abbrev pub Finds : RequestContext → Environment → Text → Result search.FoundModule RequestReason → Type 0
Finds s e name = RefusedAs missed (Found (HasResult s.limits) s.files s.listings (modulepath e) name)

-- ---- load

-- The module joins the loaded list at its end, unless something forbids it beside the loaded ones.
abbrev pub joins : Done → List Entry → Module → List Text → Result Done RequestReason
joins d xs m messages = unless (load_objection m.name m.records xs) (continued d (Loads m) messages)

-- The module that was found is loaded, unless it is already.
abbrev pub LoadsFound : RequestContext → Bool → Text → Done → List Entry → search.FoundModule
    → Result Done RequestReason → Type 0
LoadsFound s in_switch typed d xs m =
    If (has m.name (names_of xs)) (Is (Ok d)) (
    RefusedAs file_refused
    (RunsFile s.limits (context_of s modes.load in_switch typed m.name m.path xs d.env) m.text) >>
    (λ ran.
    Is (joins d xs (module_of m.name m.path ran) ran.messages)))

-- A name that is exactly a loaded module's changes nothing. Another is searched for.
abbrev pub LoadsName : RequestContext → Bool → Text → Done → Result Done RequestReason → Type 0
LoadsName s in_switch typed d =
    Is (entries_of d.env) >> (λ xs.
    If (has typed (names_of xs)) (Is (Ok d)) (
    Finds s d.env typed >> LoadsFound s in_switch typed d xs))

-- ---- unload

-- the script in a loaded module's file
abbrev pub script_at : Text → FileContent → Result Text RequestReason
script_at path absent = Err (file_gone path)
script_at path no_cookie = Err (not_a_modulefile path)
script_at path not_utf8 = Err (missed (not_utf8_at path))
script_at path (script text) = Ok text

-- The module is unloaded by the file at its recorded path. There is no search.
abbrev pub UnloadsEntry : RequestContext → Bool → Text → Done → List Entry → Entry → Result Done RequestReason → Type 0
UnloadsEntry s in_switch typed d xs x =
    Is (script_at x.path (modulefile (s.files x.path))) >> (λ text.
    RefusedAs file_refused
    (RunsFile s.limits (context_of s modes.unload in_switch typed x.name x.path xs d.env) text) >>
    (λ ran.
    Is (continued d (Unloads (module_of x.name x.path ran)) ran.messages)))

-- the module that the name means is unloaded; where there is none nothing changes
abbrev pub UnloadsMeant : RequestContext → Bool → Text → Done → List Entry → Option Entry → Result Done RequestReason
    → Type 0
UnloadsMeant s in_switch typed d xs None = Is (Ok d)
UnloadsMeant s in_switch typed d xs (Some x) = UnloadsEntry s in_switch typed d xs x

-- the last loaded module that the name means
abbrev pub last_meant : Text → List Entry → Option Entry
last_meant name xs = find (λ x. means name x.name) (reverse xs)

-- the last loaded module that the name means is unloaded
abbrev pub UnloadsName : RequestContext → Bool → Text → Done → Result Done RequestReason → Type 0
UnloadsName s in_switch typed d =
    Is (entries_of d.env) >> (λ xs.
    If (is_module_name typed)
    (UnloadsMeant s in_switch typed d xs (last_meant typed xs))
    (Is (Err (missed (bad_name typed)))))

-- ---- show and whatis

-- The file is evaluated in the environment, which doesn't change.
abbrev pub ShowsName : RequestContext → Mode → (search.FoundModule → List Record → Text) → Text → Done
    → Result Done RequestReason
    → Type 0
ShowsName s mode text_of typed d =
    Is (entries_of d.env) >> (λ xs.
    Finds s d.env typed >> (λ m.
    RefusedAs file_refused (RunsFile s.limits (context_of s mode false typed m.name m.path xs d.env) m.text) >> (λ ran.
    Is (Ok (with_report d ran.messages (text_of m ran.records))))))

-- the report of `show`
abbrev pub shown_text : search.FoundModule → List Record → Text
shown_text m rs = show_text m.path rs

-- the report of `whatis`
abbrev pub described_text : search.FoundModule → List Record → Text
described_text m rs = whatis_text m.name rs

-- ---- whole requests

-- each name in turn
abbrev pub Each : (Text → Done → Result Done RequestReason → Type 0) → List Text → Done → Result Done RequestReason
    → Type 0
Each Does [] d = Is (Ok d)
Each Does (name ∷ names) d = Does name d >> Each Does names

-- with at least one name this is done, and without a name the arguments are bad
abbrev pub NeedsNames : List Text → (Result Done RequestReason → Type 0) → Result Done RequestReason → Type 0
NeedsNames [] Does = Is (Err bad_arguments)
NeedsNames (name ∷ names) Does = Does

-- At the end no module that is still loaded has lost what it needs.
abbrev pub EndsRequest : List Entry → Done → Result Done RequestReason → Type 0
EndsRequest before d = Is (entries_of d.env) >> (λ after. Is (unless (end_objection before after) (Ok d)))

-- A request that changes what is loaded: the loaded list is read, this is done, and at the end the needs of the modules
-- that are still loaded are judged.
abbrev pub ChangesLoaded : Environment → (List Entry → Done → Result Done RequestReason → Type 0)
    → Result Done RequestReason → Type 0
ChangesLoaded e Does = Is (entries_of e) >> (λ before. Does before (nothing_done e) >> EndsRequest before)

-- the first part of a name
abbrev pub first_part : List Text → Text
first_part [] = []
first_part (part ∷ more) = part

-- Without an old name it is the first part of the new one.
abbrev pub old_name : Option Text → Text → Text
old_name (Some old) new = old
old_name None new = first_part (parts new)

-- the old one is unloaded, and then the new one loaded
abbrev pub Switches : RequestContext → Option Text → Text → Done → Result Done RequestReason → Type 0
Switches s old new d = UnloadsName s true (old_name old new) d >> LoadsName s true new

-- each name is reported on in turn
abbrev pub ShowsNames : RequestContext → Mode → (search.FoundModule → List Record → Text) → Environment → List Text
    → Result Done RequestReason → Type 0
ShowsNames s mode text_of e names = Is (entries_of e) >> (λ xs. Each (ShowsName s mode text_of) names (nothing_done e))

-- the loaded modules are reported
abbrev pub ListsLoaded : Environment → Result Done RequestReason → Type 0
ListsLoaded e = Is (entries_of e) >> (λ xs. Is (Ok (with_report (nothing_done e) [] (loaded_text (names_of xs)))))

-- the modules along MODULEPATH that texts select are reported, whatever is loaded
abbrev pub ListsAvailable : RequestContext → Environment → List Text → Result Done RequestReason → Type 0
ListsAvailable s e texts o =
    (listings : List Listing) × Listed (HasResult s.limits) s.files s.listings texts (modulepath e) listings
    × (o ≡ Ok (with_report (nothing_done e) [] (avail_text listings)))

-- The step of a request: what it has done in this environment, or the reason that it is refused for.
abbrev pub RequestStep : RequestContext → Environment → RequestedAction → Result Done RequestReason → Type 0
RequestStep s e (load names) = NeedsNames names (ChangesLoaded e (λ before. Each (LoadsName s false) names))
RequestStep s e (unload names) = NeedsNames names (ChangesLoaded e (λ before. Each (UnloadsName s false) names))
RequestStep s e (switch old new) = ChangesLoaded e (λ before. Switches s old new)
RequestStep s e purge = ChangesLoaded e (λ before. Each (UnloadsName s false) (reverse (names_of before)))
RequestStep s e list = ListsLoaded e
RequestStep s e (avail texts) = ListsAvailable s e texts
RequestStep s e (show names) = NeedsNames names (ShowsNames s modes.display shown_text e names)
RequestStep s e (whatis names) = NeedsNames names (ShowsNames s modes.whatis described_text e names)
