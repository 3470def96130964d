-- What `save` keeps of an environment (module(1)).
use Rattle.std.specs.Prelude.{List, Option, Result, Ok, Err}
use Rattle.envvars.specs.Texts.{Text}
use Rattle.envvars.specs.Environment.{Environment, lookup}
use Rattle.envvars.specs.Fields.{without_repeats}
use Rattle.envstate.specs.loaded_list.Loaded.{names_of}
use Rattle.module_collections.specs.texts.Lines.{Kept}
use Rattle.module_words.specs.modulepath.Faults.{PathReason}
use Rattle.module_words.specs.modulepath.ModulePaths.{directories_in, modulepath}
use Rattle.module_words.specs.modulepath.Words.{each, holdable}
use Rattle.filetree.specs.Relations.{Is, ◌>>◌}
use Rattle.requests.specs.Reasons.{RequestReason}
use Rattle.requests.specs.Refusals.{RefusedAs}
use Rattle.requests.specs.Requests.{purge}
use Rattle.requests.specs.Steps.{RequestContext, RequestStep, entries_of}

-- Why nothing can be kept: the loaded lists don't fit together or the purge is refused, or a directory has no path that
-- MODULEPATH could hold.
pub data KeepReason : Type 0 where
  refused_for : (reason : RequestReason) → KeepReason
  no_path : (reason : PathReason) → KeepReason

-- these modules, and these directories, each once
abbrev pub kept : List Text → Result (List Text) PathReason → Result Kept KeepReason
kept modules (Ok paths) = Ok (record { directories = without_repeats paths; modules = modules })
kept modules (Err reason) = Err (no_path reason)

-- the directories that an environment has searched, by the absolute paths that `use` would take them for
abbrev pub paths_in : Option Text → Environment → Result (List Text) PathReason
paths_in working e = each (holdable working) (directories_in (lookup e modulepath))

-- What is kept: the modules that are loaded, in load order, and the directories that are searched after a purge, so
-- without what loaded modules have added.
abbrev pub Keeps : RequestContext → Option Text → Environment → Result Kept KeepReason → Type 0
Keeps s working e =
    RefusedAs refused_for (Is (entries_of e)) >> (λ entries.
    RefusedAs refused_for (RequestStep s e purge) >> (λ purged.
    Is (kept (names_of entries) (paths_in working purged.env))))
