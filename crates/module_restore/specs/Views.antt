-- What the values of the code stand for, for the contracts of this crate's private functions (own).
use Rattle.std.specs.Prelude.{List, Option, Some, None, Result, Ok, Err}
use Rattle.envvars.specs.Environment.{Environment}
use Rattle.envvars.specs.Texts.{Text}
use Rattle.envstate.specs.loaded_list.Loaded.{Entry, names_of}
use Rattle.requests.specs.Reasons.{RequestReason}
use Rattle.requests.specs.Steps.{Done, entries_of, nothing_done}
use Rattle.modules.specs.Views.{done_view}
use Rattle.modules.specs.declared.done.RequestResults.{RequestResults}
use Rattle.module_restore.specs.Restores.{both}
use Rattle.module_restore.specs.declared.running.RestoreRun.{RestoreRun}

-- what a load has done, if there was one, with the environment that results
abbrev pub loading_view : Environment → Option RequestResults → Done
loading_view e None = nothing_done e
loading_view e (Some done) = done_view done e

-- what the requests of a restore have done
abbrev pub run_view : RestoreRun → Done
run_view run = both (done_view run.unloads run.env) (loading_view run.env run.loads)

-- the names of entries, if there are entries
abbrev pub named : Result (List Entry) RequestReason → Result (List Text) RequestReason
named (Ok entries) = Ok (names_of entries)
named (Err reason) = Err reason

-- the names of the loaded modules, or the reason that the loaded lists don't fit together
abbrev pub loaded_names : Environment → Result (List Text) RequestReason
loaded_names e = named (entries_of e)
