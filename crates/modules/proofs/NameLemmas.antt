-- What is done for one name, by what its parts answered.
use Rattle.std.proofs.Common.{◌≡◌, Bool, true, false, List, Option, Some, None, Result, Ok, Err, refl, ap, ◌∙◌, subst}
use Rattle.modulename.specs.ModuleName.{is_module_name}
use Rattle.envvars.specs.Texts.{Text, has}
use Rattle.envstate.specs.loaded_list.Loaded.{Entry, names_of}
use Rattle.filetree.specs.Relations.{Is, If, Then, After}
use Rattle.modulefile.specs.Effects as modes
use Rattle.modulefile.specs.Files.{Ran, RunsFile}
use Rattle.search.specs.Found as search
use Rattle.search.specs.Reasons.{bad_name}
use Rattle.requests.specs.Reasons.{RequestReason, missed, file_refused}
use Rattle.requests.specs.Refusals.{RefusedAs}
use Rattle.modulefile.specs.Moves.{Unloads}
use Rattle.requests.specs.Looked.{UnloadLooksAt}
use Rattle.requests.specs.Steps.{RequestContext, Done, entries_of, context_of, continued, module_of, joins, Finds}
use Rattle.requests.specs.Steps.{LoadsFound, LoadsName, UnloadsMeant, UnloadsName, last_meant}
use Rattle.modules.specs.Parts.{ReadsMeant, FindsLoaded, LoadedLooksAt}
use Rattle.modules.proofs.StepLemmas.{if_yes, if_no}

module _ (s : RequestContext) (in_switch : Bool) (typed : Text) (d : Done) where
  module _ (xs : List Entry) (listed : Ok xs ≡ entries_of d.env) where
    pub loads_loaded : has typed (names_of xs) ≡ true → LoadsName s in_switch typed d (Ok d)
    loads_loaded e = (Ok xs, listed, if_yes (has typed (names_of xs)) (Is (Ok d)) (Then (Finds s d.env typed) (LoadsFound s in_switch typed d xs)) (Ok d) e refl)

    pub loads_unfound : has typed (names_of xs) ≡ false → (r : RequestReason) → Finds s d.env typed (Err r) → LoadsName s in_switch typed d (Err r)
    loads_unfound e r h = (Ok xs, listed, if_no (has typed (names_of xs)) (Is (Ok d)) (Then (Finds s d.env typed) (LoadsFound s in_switch typed d xs)) (Err r) e (Err r, h, refl))

    pub loads_found : has typed (names_of xs) ≡ false → (m : search.FoundModule) → Finds s d.env typed (Ok m)
        → (o : Result Done RequestReason) → LoadsFound s in_switch typed d xs m o → LoadsName s in_switch typed d o
    loads_found e m h o k = (Ok xs, listed, if_no (has typed (names_of xs)) (Is (Ok d)) (Then (Finds s d.env typed) (LoadsFound s in_switch typed d xs)) o e (Ok m, h, k))

    -- the module that is unloaded, by its entry

    abbrev unloads_by : Option search.FoundModule → Result Done RequestReason → Type 0
    unloads_by None = Is (Ok d)
    unloads_by (Some m) = Then (RefusedAs file_refused
        (RunsFile s.limits (context_of s modes.unload in_switch typed m.name m.path xs d.env) m.text))
        (λ ran. Is (continued d (Unloads (module_of m.name m.path ran)) ran.messages))

    unloads_entry : (x : Option Entry) (meant : Result (Option search.FoundModule) RequestReason) (o : Result Done RequestReason) → ReadsMeant s.files x meant → After unloads_by meant o
        → UnloadsMeant s in_switch typed d xs x o
    unloads_entry None meant o h k = subst (λ z. After unloads_by z o) h k
    unloads_entry (Some x) meant o (Ok m, (Ok text, script, made), is) k =
        let m' : search.FoundModule = record { name = x.name; path = x.path; text = text } in
        let same : m ≡ m' = cc in
        (Ok text, script, subst (λ z. After unloads_by z o) (is ∙ ap (λ y. Ok (Some y)) same) k)
    unloads_entry (Some x) meant o (Ok m, (Err r, script, made), is) k = absurd (cc)
    unloads_entry (Some x) meant o (Err r, (Ok text, script, made), is) k = absurd (cc)
    unloads_entry (Some x) meant o (Err r, (Err q, script, made), is) k =
        let same : r ≡ q = cc in
        (Err q, script, subst (λ z. After unloads_by z o) is k ∙ ap Err same)

    unloads_spelled : (b : Bool) (meant : Result (Option search.FoundModule) RequestReason) (o : Result Done RequestReason)
        → If b (ReadsMeant s.files (last_meant typed xs)) (Is (Err (missed (bad_name typed)))) meant → After unloads_by meant o
        → If b (UnloadsMeant s in_switch typed d xs (last_meant typed xs)) (Is (Err (missed (bad_name typed)))) o
    unloads_spelled true meant o h k = unloads_entry (last_meant typed xs) meant o h k
    unloads_spelled false meant o h k = subst (λ z. After unloads_by z o) h k

    pub unloads_loaded : (meant : Result (Option search.FoundModule) RequestReason) (o : Result Done RequestReason) → FindsLoaded s.files typed xs meant → After unloads_by meant o
        → UnloadsName s in_switch typed d o
    unloads_loaded meant o h k = (Ok xs, listed, unloads_spelled (is_module_name typed) meant o h k)

    pub unloads_at : (at : Text) → LoadedLooksAt typed xs at → UnloadLooksAt typed d at
    unloads_at at h = record { entries = xs; read = listed; spelled = h.spelled; entry = h.entry; meant = h.meant; recorded = h.recorded }

-- the module that was found
module _ (s : RequestContext) (in_switch : Bool) (typed : Text) (d : Done) (xs : List Entry) (m : search.FoundModule) where
  abbrev evaluated : Result Ran RequestReason → Type 0
  evaluated = RefusedAs file_refused (RunsFile s.limits (context_of s modes.load in_switch typed m.name m.path xs d.env) m.text)

  abbrev ran_on : Result Done RequestReason → Type 0
  ran_on = Then evaluated (λ ran. Is (joins d xs (module_of m.name m.path ran) ran.messages))

  pub found_stopped : has m.name (names_of xs) ≡ false → (r : RequestReason) → evaluated (Err r) → LoadsFound s in_switch typed d xs m (Err r)
  found_stopped e r h = if_no (has m.name (names_of xs)) (Is (Ok d)) ran_on (Err r) e (Err r, h, refl)

  pub found_joins : has m.name (names_of xs) ≡ false → (ran : Ran) → evaluated (Ok ran) → (o : Result Done RequestReason) → o ≡ joins d xs (module_of m.name m.path ran) ran.messages
      → LoadsFound s in_switch typed d xs m o
  found_joins e ran h o k = if_no (has m.name (names_of xs)) (Is (Ok d)) ran_on o e (Ok ran, h, k)
