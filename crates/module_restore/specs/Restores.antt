-- What `restore` and `reload` make of an environment, over the files and directories of a tree (module(1)).
use Rattle.std.specs.Prelude.{◌≡◌, List, [], ◌∷◌, ◌++◌, Option, Some, None, Result, Ok}
use Rattle.envvars.specs.Texts.{Text}
use Rattle.envvars.specs.Environment.{Environment}
use Rattle.envvars.specs.Fields.{text_of_elements}
use Rattle.envstate.specs.loaded_list.Loaded.{Entry, names_of}
use Rattle.module_words.specs.modulepath.Edits.{with_path}
use Rattle.filetree.specs.Relations.{Is, ◌>>◌}
use Rattle.requests.specs.Looked.{LooksInTurn, RequestLooksAt}
use Rattle.requests.specs.Reasons.{RequestReason}
use Rattle.requests.specs.Requests.{RequestedAction, load, purge, unload}
use Rattle.requests.specs.Steps.{RequestContext, Done, RequestStep, entries_of, nothing_done}

-- MODULEPATH with this text; without a text it stays
abbrev pub with_text : Environment → Option Text → Environment
with_text e None = e
with_text e (Some text) = with_path e (Some text)

-- the environment in which these directories are searched; without directories MODULEPATH stays
abbrev pub searching : List Text → Environment → Environment
searching directories e = with_text e (text_of_elements directories)

-- the step that loads these names; without names nothing is done
abbrev pub LoadStep : RequestContext → List Text → Environment → Result Done RequestReason → Type 0
LoadStep s [] e = Is (Ok (nothing_done e))
LoadStep s (name ∷ names) e = RequestStep s e (load (name ∷ names))

-- what two requests have done, of which the second ran in what the first had made
abbrev pub both : Done → Done → Done
both first second =
    record {
      env = second.env;
      moves = first.moves ++ second.moves;
      messages = first.messages ++ second.messages;
      report = first.report ++ second.report;
    }

-- A first request, then a change of MODULEPATH to the directories, and then the load of the modules. Each is accepted,
-- or the reason of the first that isn't is that of the whole.
abbrev pub ReplacingStep : RequestContext → Environment → RequestedAction → (directories modules : List Text)
    → Result Done RequestReason → Type 0
ReplacingStep s e first directories modules =
    RequestStep s e first >> (λ done.
    LoadStep s modules (searching directories done.env) >> (λ loaded.
    Is (Ok (both done loaded))))

-- The step of a restore: a purge goes first.
abbrev pub RestoreStep : RequestContext → Environment → (directories modules : List Text) → Result Done RequestReason
    → Type 0
RestoreStep s e directories modules = ReplacingStep s e purge directories modules

-- The step of an exchange: the unload of some names, and then the load of others.
abbrev pub ExchangeStep : RequestContext → Environment → (unloads loads : List Text) → Result Done RequestReason
    → Type 0
ExchangeStep s e unloads loads = ReplacingStep s e (unload unloads) [] loads

-- The step of a reload: that of a restore of the modules that are loaded, in load order, where MODULEPATH stays.
abbrev pub ReloadStep : RequestContext → Environment → Result Done RequestReason → Type 0
ReloadStep s e = Is (entries_of e) >> (λ entries. RestoreStep s e [] (names_of entries))

-- The load of these names looks at this path.
abbrev pub LoadStepLooksAt : RequestContext → List Text → Environment → Text → Type 0
LoadStepLooksAt s names e at = RequestLooksAt s e (load names) at

-- Such a step looks at this path: the first request does, or the load in what the former comes to.
abbrev pub ReplacingLooksAt : RequestContext → Environment → RequestedAction → (directories modules : List Text) → Text
    → Type 0
ReplacingLooksAt s e first directories modules =
    LooksInTurn (RequestLooksAt s e first) (λ done. RequestStep s e first (Ok done))
    (λ done. LoadStepLooksAt s modules (searching directories done.env))

-- A restore and an exchange look where these do.
abbrev pub RestoreLooksAt : RequestContext → Environment → (directories modules : List Text) → Text → Type 0
RestoreLooksAt s e directories modules = ReplacingLooksAt s e purge directories modules

abbrev pub ExchangeLooksAt : RequestContext → Environment → (unloads loads : List Text) → Text → Type 0
ExchangeLooksAt s e unloads loads = ReplacingLooksAt s e (unload unloads) [] loads

-- A reload looks where that restore does.
abbrev pub ReloadLooksAt : RequestContext → Environment → Text → Type 0
ReloadLooksAt s e at =
    (entries : List Entry) × (Ok entries ≡ entries_of e) × RestoreLooksAt s e [] (names_of entries) at
