-- Where a request looks (own): the paths of the files and directories that it reads or lists on its way. No failure of
-- the device at another path can refuse it.
use Rattle.std.specs.Prelude.{◌≡◌, ◌⊎◌, true, false, List, [], ◌∷◌, reverse, Some, Result, Ok}
use Rattle.modulename.specs.ModuleName.{is_module_name}
use Rattle.envvars.specs.Texts.{Text, has}
use Rattle.envvars.specs.Environment.{Environment}
use Rattle.envstate.specs.loaded_list.Loaded.{Entry, names_of}
use Rattle.lookup.specs.DefaultFileResults.{HasResult}
use Rattle.modulefile.specs.Effects as modes
use Rattle.search.specs.Looked as search
use Rattle.requests.specs.Reasons.{RequestReason}
use Rattle.requests.specs.Requests.{Request, RequestedAction, load, unload, switch, purge, list, avail, show, whatis}
use Rattle.requests.specs.Sessions.{Response, IsResponse, env_after, in_shell}
use Rattle.requests.specs.Steps.{RequestContext, Done, nothing_done, entries_of, modulepath, last_meant, old_name}
use Rattle.requests.specs.Steps.{LoadsName, UnloadsName, ShowsName, shown_text, described_text}

-- The search for what a name means now looks at this path. The file of the module that is found is one of these.
abbrev pub SearchLooksAt : RequestContext → Environment → Text → Text → Type 0
SearchLooksAt s e name at = search.LooksAt (HasResult s.limits) s.files s.listings (modulepath e) name at

-- to load a name: where it is searched, unless it is exactly a loaded module's
pub record LoadLooksAt (s : RequestContext) (typed : Text) (d : Done) (at : Text) : Type 0 where
  pub entries : List Entry
  pub read : Ok entries ≡ entries_of d.env
  pub unloaded : has typed (names_of entries) ≡ false
  pub searched : SearchLooksAt s d.env typed at

-- to unload a name: the recorded path of the module that it means, and no other
pub record UnloadLooksAt (typed : Text) (d : Done) (at : Text) : Type 0 where
  pub entries : List Entry
  pub read : Ok entries ≡ entries_of d.env
  pub spelled : is_module_name typed ≡ true
  pub entry : Entry
  pub meant : Some entry ≡ last_meant typed entries
  pub recorded : at ≡ entry.path

-- to show a name: where it is searched
pub record ShowLooksAt (s : RequestContext) (typed : Text) (d : Done) (at : Text) : Type 0 where
  pub entries : List Entry
  pub read : Ok entries ≡ entries_of d.env
  pub searched : SearchLooksAt s d.env typed at

-- the first of two, or the second in what the first one comes to
abbrev pub LooksInTurn : {M : Type 0} → (Text → Type 0) → (M → Type 0) → (M → Text → Type 0) → Text → Type 0
LooksInTurn {M} First Comes Second at = First at ⊎ ((mid : M) × Comes mid × Second mid at)

-- for each name in turn
abbrev pub EachLooksAt : (Text → Done → Result Done RequestReason → Type 0) → (Text → Done → Text → Type 0)
    → List Text → Done → Text → Type 0
EachLooksAt Does Looks [] d at = ⊥
EachLooksAt Does Looks (name ∷ names) d at =
    LooksInTurn (Looks name d) (λ mid. Does name d (Ok mid)) (EachLooksAt Does Looks names) at

-- to switch: for the old name, and then for the new one
abbrev pub SwitchLooksAt : RequestContext → Text → Text → Done → Text → Type 0
SwitchLooksAt s old new d =
    LooksInTurn (UnloadLooksAt old d) (λ mid. UnloadsName s true old d (Ok mid)) (LoadLooksAt s new)

-- for all loaded modules, the last loaded first
pub record PurgeLooksAt (s : RequestContext) (e : Environment) (at : Text) : Type 0 where
  pub entries : List Entry
  pub read : Ok entries ≡ entries_of e
  pub unloading : EachLooksAt (UnloadsName s false) UnloadLooksAt (reverse (names_of entries)) (nothing_done e) at

-- The request looks at this path.
abbrev pub RequestLooksAt : RequestContext → Environment → RequestedAction → Text → Type 0
RequestLooksAt s e (load names) at = EachLooksAt (LoadsName s false) (LoadLooksAt s) names (nothing_done e) at
RequestLooksAt s e (unload names) at = EachLooksAt (UnloadsName s false) UnloadLooksAt names (nothing_done e) at
RequestLooksAt s e (switch old new) at = SwitchLooksAt s (old_name old new) new (nothing_done e) at
RequestLooksAt s e purge at = PurgeLooksAt s e at
RequestLooksAt s e list at = ⊥
RequestLooksAt s e (avail texts) at =
    search.ListingLooksAt (HasResult s.limits) s.files s.listings texts (modulepath e) at
RequestLooksAt s e (show names) at =
    EachLooksAt (ShowsName s modes.display shown_text) (ShowLooksAt s) names (nothing_done e) at
RequestLooksAt s e (whatis names) at =
    EachLooksAt (ShowsName s modes.whatis described_text) (ShowLooksAt s) names (nothing_done e) at

-- One of several looks at this path, in the environment after the responses to those before it.
abbrev pub OneLooksAt : {R : Type 0} → (Environment → R → Text → Type 0) → (Environment → R → Response → Type 0)
    → Environment → List R → Text → Type 0
OneLooksAt Looks Has e [] at = ⊥
OneLooksAt Looks Has e (r ∷ rs) at =
    LooksInTurn (Looks e r) (Has e r) (λ o. OneLooksAt Looks Has (env_after e o) rs) at

-- a request in its own shell: where it looks, and a response that it has
abbrev pub OwnLooksAt : RequestContext → Environment → Request → Text → Type 0
OwnLooksAt s e r at = RequestLooksAt (in_shell s r.0) e r.1 at

abbrev pub IsOwnResponse : RequestContext → Environment → Request → Response → Type 0
IsOwnResponse s e r o = IsResponse (in_shell s r.0) e r.1 o

-- A request of a session looks at this path.
abbrev pub SessionLooksAt : RequestContext → Environment → List Request → Text → Type 0
SessionLooksAt s e rs at = OneLooksAt (OwnLooksAt s) (IsOwnResponse s) e rs at
