-- What the load of one name does: nothing, or it loads one module, which is then the last in the loaded list.
use Rattle.std.proofs.Common.{◌≡◌, ◌⊎◌, inl, inr, Bool, true, false, List, [], ◌∷◌, ◌++◌, Option, Some, None, Result, Ok}
use Rattle.std.proofs.Common.{Err, refl, sym, subst, ap, ◌∙◌}
use Rattle.envvars.specs.Texts.{Text, has}
use Rattle.envvars.specs.Environment.{Environment}
use Rattle.envvars.specs.Reasons.{EnvReason}
use Rattle.envstate.specs.loaded_list.Loaded.{Entry, added_loaded, added_to, loaded_in, names_of, with_conflicts_once}
use Rattle.envstate.specs.loaded_list.LoadedLaws.{AddMakes}
use Rattle.filetree.specs.Relations.{Is, If, Then}
use Rattle.modulefile.specs.Judgments.{RecordReason}
use Rattle.modulefile.specs.Effects as modes
use Rattle.modulefile.specs.Effects.{and_then, edit_outcome, effects}
use Rattle.modulefile.specs.Files.{RunsFile}
use Rattle.modulefile.specs.Moves.{Module, Move, Loads, MovesReach, entry_of, loaded_names, moved}
use Rattle.requests.specs.Conditions.{end_objection, load_objection}
use Rattle.requests.specs.Laws.{StepsReach}
use Rattle.requests.specs.Reasons.{RequestReason, file_refused, refused_edit}
use Rattle.requests.specs.Refusals.{RefusedAs, refused_as, unless}
use Rattle.requests.specs.Requests.{load}
use Rattle.requests.specs.Steps.{RequestContext, Done, nothing_done, with_move, continued, context_of, module_of}
use Rattle.requests.specs.Steps.{Each, EndsRequest, Finds, LoadsFound, LoadsName, entries_of, joins}
use Rattle.requests.proofs.Bound.{allowed, bound, went_on}
use Rattle.search.specs.Found as search
use Rattle.audit_dry_runs.specs.Parts.{IsJoined}
use Rattle.audit_dry_runs.specs.DryRuns.{LoadStep, LoadsModule}
use Rattle.audit_dry_runs.proofs.ListLemmas.{same_last}

-- no move, or the load of one module
abbrev pub LoadsAtMostOne : List Move → Type 0
LoadsAtMostOne ms = (ms ≡ []) ⊎ ((m : Module) × (ms ≡ Loads m ∷ []))

at_most : (d t : Done) → LoadsAtMostOne d.moves → d ≡ t → LoadsAtMostOne t.moves
at_most d t h same = subst (λ (x : Done). LoadsAtMostOne x.moves) same h

joined_one : (e : Environment) (m : Module) (messages : List Text) (d : Done)
    → continued (nothing_done e) (Loads m) messages ≡ Ok d → LoadsAtMostOne d.moves
joined_one e m messages d h =
    let b = bound (refused_as refused_edit (moved (Loads m) e)) (λ x. Ok (with_move (nothing_done e) (Loads m) messages x)) d h in
    at_most (with_move (nothing_done e) (Loads m) messages b.0) d (inr (m, refl)) (cc)

found_one : (s : RequestContext) (w : Bool) (typed : Text) (e : Environment) (xs : List Entry) (m : search.FoundModule)
    (b : Bool) (d : Done)
    → If b (Is (Ok (nothing_done e))) (Then (RefusedAs file_refused
    (RunsFile s.limits (context_of s modes.load w typed m.name m.path xs e) m.text)) (λ ran.
    Is (joins (nothing_done e) xs (module_of m.name m.path ran) ran.messages))) (Ok d)
    → LoadsAtMostOne d.moves
found_one s w typed e xs m true d h = at_most (nothing_done e) d (inl refl) (cc)
found_one s w typed e xs m false d h =
    let k = went_on (RefusedAs file_refused (RunsFile s.limits (context_of s modes.load w typed m.name m.path xs e) m.text))
    (λ ran. Is (joins (nothing_done e) xs (module_of m.name m.path ran) ran.messages)) d h in
    let one : Module = module_of m.name m.path k.0 in
    let f = allowed (load_objection one.name one.records xs) (continued (nothing_done e) (Loads one) k.0.messages) d (sym k.2) in
    joined_one e one k.0.messages d f.1

name_one : (s : RequestContext) (typed : Text) (e : Environment) (xs : List Entry) (b : Bool) (d : Done)
    → If b (Is (Ok (nothing_done e))) (Then (Finds s e typed) (LoadsFound s false typed (nothing_done e) xs)) (Ok d)
    → LoadsAtMostOne d.moves
name_one s typed e xs true d h = at_most (nothing_done e) d (inl refl) (cc)
name_one s typed e xs false d h =
    let k = went_on (Finds s e typed) (LoadsFound s false typed (nothing_done e) xs) d h in
    found_one s false typed e xs k.0 (has k.0.name (names_of xs)) d k.2

named_one : (s : RequestContext) (e : Environment) (typed : Text) (d : Done)
    → LoadsName s false typed (nothing_done e) (Ok d) → LoadsAtMostOne d.moves
named_one s e typed d h =
    let k = went_on (Is (entries_of e)) (λ xs.
    If (has typed (names_of xs)) (Is (Ok (nothing_done e))) (Then (Finds s e typed) (LoadsFound s false typed (nothing_done e) xs))) d h in
    name_one s typed e k.0 (has typed (names_of k.0)) d k.2

-- the end of a request judges, and changes nothing
pub ended_so : (before : List Entry) (t d : Done) → EndsRequest before t (Ok d) → t ≡ d
ended_so before t d h =
    let k = went_on (Is (entries_of t.env)) (λ after. Is (unless (end_objection before after) (Ok t))) d h in
    let f = allowed (end_objection before k.0) (Ok t) d (sym k.2) in
    cc

-- the names of a request, where there is one
pub of_one : (Does : Text → Done → Result Done RequestReason → Type 0) (name : Text) (s t : Done)
    → Each Does (name ∷ []) s (Ok t) → Does name s (Ok t)
of_one Does name s t h =
    let k = went_on (Does name s) (Each Does []) t h in
    let same : k.0 ≡ t = cc in
    subst (λ (x : Done). Does name s (Ok x)) same k.1

-- the load of one name is the step of this name
pub one_loaded : (s : RequestContext) (e : Environment) (name : Text) (d : Done) → LoadStep s e name (Ok d)
    → LoadsName s false name (nothing_done e) (Ok d)
one_loaded s e name d h =
    let k = went_on (Is (entries_of e)) (λ before.
    Then (Each (LoadsName s false) (name ∷ []) (nothing_done e)) (EndsRequest before)) d h in
    let f = went_on (Each (LoadsName s false) (name ∷ []) (nothing_done e)) (EndsRequest k.0) d k.2 in
    let same = ended_so k.0 f.0 d f.2 in
    subst (λ (x : Done). LoadsName s false name (nothing_done e) (Ok x)) same
    (of_one (LoadsName s false) name (nothing_done e) f.0 f.1)

pub loads_at_most_one : (s : RequestContext) (e : Environment) (name : Text) (d : Done) → LoadStep s e name (Ok d)
    → LoadsAtMostOne d.moves
loads_at_most_one s e name d h = named_one s e name d (one_loaded s e name d h)

-- ---- the loaded list after it

edited_ok : (r : Result Environment EnvReason) (e : Environment) → edit_outcome r ≡ Ok e → r ≡ Ok e
edited_ok (Ok x) e h = cc
edited_ok (Err r) e h = absurd (cc)

moved_ok : (o : Result Environment RecordReason) (next : Environment → Result Environment RecordReason)
    (e : Environment) → and_then o next ≡ Ok e → (mid : Environment) × (next mid ≡ Ok e)
moved_ok (Ok mid) next e h = (mid, h)
moved_ok (Err r) next e h = absurd (cc)

added_last : AddMakes → (mid new : Environment) (x : Entry) (list : Option (List Entry)) → loaded_in mid ≡ list
    → added_loaded mid x ≡ Ok new → added_to mid x list ≡ Ok new
    → (before : List Entry) × (loaded_in new ≡ Some (before ++ with_conflicts_once x ∷ []))
added_last law mid new x None read added h = absurd (cc)
added_last law mid new x (Some xs) read added h = (xs, law mid new x xs read added)

-- a module that was loaded is the last one
pub loaded_last : AddMakes → (m : Module) (old new : Environment) → moved (Loads m) old ≡ Ok new
    → (before : List Entry) × (loaded_in new ≡ Some (before ++ with_conflicts_once (entry_of m) ∷ []))
loaded_last law m old new h =
    let k = moved_ok (effects modes.load m.name m.records old) (λ x. edit_outcome (added_loaded x (entry_of m))) new h in
    let added : added_loaded k.0 (entry_of m) ≡ Ok new = edited_ok (added_loaded k.0 (entry_of m)) new k.1 in
    added_last law k.0 new (entry_of m) (loaded_in k.0) refl added added

-- a module is its name, path and records
pub same_module : (m : Module) (name path : Text) → name ≡ m.name → path ≡ m.path
    → m ≡ record { name = name; path = path; records = m.records }
same_module m name path p q =
    let Named : Text → Module = λ n. record { name = n; path = m.path; records = m.records } in
    let Placed : Text → Module = λ a. record { name = name; path = a; records = m.records } in
    ap Named (sym p) ∙ ap Placed (sym q)

module _ (reach : StepsReach) (law : AddMakes) (s : RequestContext) (e : Environment) (typed : Text) (d : Done)
    (step : LoadStep s e typed (Ok d)) where
  -- the module that is loaded is the last in the loaded list
  pub last_of_one : (m : Module) → d.moves ≡ Loads m ∷ []
      → (before : List Entry) × (loaded_in d.env ≡ Some (before ++ with_conflicts_once (entry_of m) ∷ []))
  last_of_one m one =
      let reached = subst (λ (ms : List Move). MovesReach ms e d.env) one (reach s e (load (typed ∷ [])) d step) in
      let to : d.env ≡ reached.1.0 = reached.1.2 in
      loaded_last law m e d.env (reached.1.1 ∙ ap Ok (sym to))

  none_joined : LoadsAtMostOne d.moves → (names : List Text) → names ≡ loaded_names d.moves → IsJoined names d.env None
      → d.moves ≡ []
  none_joined (inl none) names same h = none
  none_joined (inr (m, one)) names same h =
      let said : names ≡ m.name ∷ [] = same ∙ ap loaded_names one in
      let k : IsJoined (m.name ∷ []) d.env None = subst (λ (ns : List Text). IsJoined ns d.env None) said h in
      let l = last_of_one m one in
      absurd (k l.0 (with_conflicts_once (entry_of m)) l.1)

  -- where no module joined the list nothing was loaded
  pub nothing_joined : (names : List Text) → names ≡ loaded_names d.moves → IsJoined names d.env None → d.moves ≡ []
  nothing_joined = none_joined (loads_at_most_one s e typed d step)

  some_joined : LoadsAtMostOne d.moves → (names : List Text) (x : Entry) → names ≡ loaded_names d.moves
      → IsJoined names d.env (Some x) → LoadsModule s e typed x.name x.path d
  some_joined (inl none) names x same h =
      let said : names ≡ [] = same ∙ ap loaded_names none in
      let k : Some x ≡ None = subst (λ (ns : List Text). IsJoined ns d.env (Some x)) said h in
      absurd (cc)
  some_joined (inr (m, one)) names x same h =
      let said : names ≡ m.name ∷ [] = same ∙ ap loaded_names one in
      let k : IsJoined (m.name ∷ []) d.env (Some x) = subst (λ (ns : List Text). IsJoined ns d.env (Some x)) said h in
      let l = last_of_one m one in
      let lists : k.0 ++ x ∷ [] ≡ l.0 ++ with_conflicts_once (entry_of m) ∷ [] =
      (let q : Some (k.0 ++ x ∷ []) ≡ Some (l.0 ++ with_conflicts_once (entry_of m) ∷ []) = sym k.1 ∙ l.1 in cc) in
      let entry : x ≡ with_conflicts_once (entry_of m) = same_last k.0 l.0 x (with_conflicts_once (entry_of m)) lists in
      let named : x.name ≡ m.name = ap (λ (y : Entry). y.name) entry in
      let placed : x.path ≡ m.path = ap (λ (y : Entry). y.path) entry in
      record {
        accepted = step;
        records = m.records;
        alone = one ∙ ap (λ (y : Module). Loads y ∷ []) (same_module m x.name x.path named placed);
      }

  -- what joined the list is the module that was loaded
  pub one_joined : (names : List Text) (x : Entry) → names ≡ loaded_names d.moves → IsJoined names d.env (Some x)
      → LoadsModule s e typed x.name x.path d
  one_joined = some_joined (loads_at_most_one s e typed d step)
