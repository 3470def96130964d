-- The unload of a dry run is that of the module that was loaded.
use Rattle.std.proofs.Common.{◌≡◌, Bool, true, false, List, [], ◌∷◌, ◌++◌, Option, Some, None, Ok, Err, refl, sym}
use Rattle.std.proofs.Common.{subst, ap, ◌∙◌, find, reverse, arith}
use Rattle.std.specs.Prelude.{nat_eq}
use Rattle.std.proofs.lemmas.Bool.{and_from}
use Rattle.std.proofs.lemmas.Bool.Decides.{nat_tests}
use Rattle.std.proofs.lemmas.List.{reverse-append}
use Rattle.modulename.specs.ModuleName.{is_module_name, means}
use Rattle.envvars.specs.Texts.{Text}
use Rattle.envvars.specs.Environment.{Environment}
use Rattle.envstate.specs.loaded_list.Loaded.{Entry, loaded_in, with_conflicts_once}
use Rattle.envstate.specs.loaded_list.LoadedLaws.{AddMakes}
use Rattle.filetree.specs.Modulefiles.{modulefile}
use Rattle.filetree.specs.Relations.{Is, If, Then}
use Rattle.modulefile.specs.Effects as modes
use Rattle.modulefile.specs.Files.{RunsFile}
use Rattle.modulefile.specs.Moves.{Module, Unloads, entry_of, moved}
use Rattle.modulefile.specs.Records.{Record}
use Rattle.requests.specs.Laws.{StepsReach}
use Rattle.requests.specs.Reasons.{file_refused, missed, refused_edit}
use Rattle.requests.specs.Refusals.{RefusedAs, refused_as}
use Rattle.requests.specs.Steps.{RequestContext, Done, nothing_done, with_move, consistent, context_of, continued}
use Rattle.requests.specs.Steps.{Each, EndsRequest, UnloadsEntry, UnloadsMeant, UnloadsName, entries_of, last_meant}
use Rattle.requests.specs.Steps.{module_of, script_at}
use Rattle.requests.proofs.Bound.{bound, went_on}
use Rattle.search.specs.Reasons.{bad_name}
use Rattle.audit_dry_runs.specs.Laws.{UnloadsTheModule}
use Rattle.audit_dry_runs.specs.DryRuns.{UnloadStep}
use Rattle.audit_dry_runs.proofs.LoadLemmas.{ended_so, last_of_one, of_one}

-- a name means itself
means_itself : (n : Text) → means n n ≡ true
means_itself [] = refl
means_itself (c ∷ cs) = let one : nat_eq c c ≡ true = grind (arith, nat_tests) in and_from (nat_eq c c) (means cs cs) one (means_itself cs)

-- the unload of one name is the step of this name
one_unloaded : (s : RequestContext) (e : Environment) (name : Text) (d : Done) → UnloadStep s e name (Ok d)
    → UnloadsName s false name (nothing_done e) (Ok d)
one_unloaded s e name d h =
    let k = went_on (Is (entries_of e)) (λ before.
    Then (Each (UnloadsName s false) (name ∷ []) (nothing_done e)) (EndsRequest before)) d h in
    let f = went_on (Each (UnloadsName s false) (name ∷ []) (nothing_done e)) (EndsRequest k.0) d k.2 in
    let same = ended_so k.0 f.0 d f.2 in
    subst (λ (x : Done). UnloadsName s false name (nothing_done e) (Ok x)) same
    (of_one (UnloadsName s false) name (nothing_done e) f.0 f.1)

-- the list that was read
list_read : (o : Option (List Entry)) (xs ys : List Entry) → Ok xs ≡ consistent o → o ≡ Some ys → xs ≡ ys
list_read None xs ys h k = absurd (cc)
list_read (Some zs) xs ys h k = cc

-- the move of an unload of this entry
abbrev UnloadsOne : Done → Entry → Type 0
UnloadsOne d x =
    (records : List Record) × (d.moves ≡ Unloads (record { name = x.name; path = x.path; records = records }) ∷ [])

unloaded_by : (e : Environment) (m : Module) (messages : List Text) (d : Done)
    → continued (nothing_done e) (Unloads m) messages ≡ Ok d → d.moves ≡ Unloads m ∷ []
unloaded_by e m messages d h =
    let b = bound (refused_as refused_edit (moved (Unloads m) e)) (λ y. Ok (with_move (nothing_done e) (Unloads m) messages y)) d h in
    let same : with_move (nothing_done e) (Unloads m) messages b.0 ≡ d = cc in
    subst (λ (y : Done). y.moves ≡ Unloads m ∷ []) same refl

entry_one : (s : RequestContext) (typed : Text) (e : Environment) (xs : List Entry) (x : Entry) (d : Done)
    → UnloadsEntry s false typed (nothing_done e) xs x (Ok d) → UnloadsOne d x
entry_one s typed e xs x d h =
    let Runs = λ (text : Text). RefusedAs file_refused
    (RunsFile s.limits (context_of s modes.unload false typed x.name x.path xs e) text) in
    let k = went_on (Is (script_at x.path (modulefile (s.files x.path)))) (λ text.
    Then (Runs text) (λ ran. Is (continued (nothing_done e) (Unloads (module_of x.name x.path ran)) ran.messages))) d h in
    let f = went_on (Runs k.0) (λ ran.
    Is (continued (nothing_done e) (Unloads (module_of x.name x.path ran)) ran.messages)) d k.2 in
    (f.0.records, unloaded_by e (module_of x.name x.path f.0) f.0.messages d (sym f.2))

meant_one : (s : RequestContext) (typed : Text) (e : Environment) (xs : List Entry) (x : Entry) (d : Done) (b : Bool)
    → last_meant typed xs ≡ Some x
    → If b (UnloadsMeant s false typed (nothing_done e) xs (last_meant typed xs)) (Is (Err (missed (bad_name typed)))) (Ok d)
    → UnloadsOne d x
meant_one s typed e xs x d true meant h =
    entry_one s typed e xs x d
    (subst (λ (o : Option Entry). UnloadsMeant s false typed (nothing_done e) xs o (Ok d)) meant h)
meant_one s typed e xs x d false meant h = absurd (let k : Ok d ≡ Err (missed (bad_name typed)) = h in cc)

found_first : (p : Entry → Bool) (x : Entry) (xs : List Entry) → p x ≡ true → find p (x ∷ xs) ≡ Some x
found_first p x xs h = rw h refl

last_is_meant : (typed : Text) (xs : List Entry) (x : Entry) → x.name ≡ typed → last_meant typed (xs ++ x ∷ []) ≡ Some x
last_is_meant typed xs x named =
    let turned : reverse (xs ++ x ∷ []) ≡ x ∷ reverse xs = reverse-append xs (x ∷ []) in
    let itself : means typed x.name ≡ true = rw named (means_itself typed) in
    ap (find (λ y. means typed y.name)) turned ∙ found_first (λ y. means typed y.name) x (reverse xs) itself

pub unloads_the_module : StepsReach → AddMakes → UnloadsTheModule
unloads_the_module reach law s e name path d back loads step =
    let m : Module = record { name = name; path = path; records = loads.records } in
    let l = last_of_one reach law s e name d loads.accepted m loads.alone in
    let x : Entry = with_conflicts_once (entry_of m) in
    let k = went_on (Is (entries_of d.env)) (λ xs.
    If (is_module_name name) (UnloadsMeant s false name (nothing_done d.env) xs (last_meant name xs))
    (Is (Err (missed (bad_name name))))) back (one_unloaded s d.env name back step) in
    let listed : k.0 ≡ l.0 ++ x ∷ [] = list_read (loaded_in d.env) k.0 (l.0 ++ x ∷ []) k.1 l.1 in
    let meant : last_meant name k.0 ≡ Some x = rw listed (last_is_meant name l.0 x refl) in
    meant_one s name d.env k.0 x back (is_module_name name) meant k.2
