-- What the record of a module makes of an environment, by the mode of the evaluation (modulefile(5)).
use Rattle.std.specs.Prelude.{ℕ, List, [], ◌∷◌, if◌then◌else◌, Option, Some, None, Result, Ok, Err}
use Rattle.envvars.specs.Texts.{Text}
use Rattle.envvars.specs.Environment.{Environment, with_value}
use Rattle.envvars.specs.Reasons.{EnvReason}
use Rattle.envstate.specs.paths.PathVariables.{added_path, dropped_path}
use Rattle.envstate.specs.declared.paths.adding.End.TheVariants as ends
use Rattle.envstate.specs.stacks.StackVariables.{pushed_value, popped_value}
use Rattle.modulefile.specs.Records.{Record, Set, Unset, Push, Path, Conflict, Prereq, Whatis}
use Rattle.modulefile.specs.Records.{adds_elements}
use Rattle.modulefile.specs.declared.records.PathEdit.{PathEdit}
use Rattle.modulefile.specs.declared.records.PathEdit.TheVariants.{Front, Back, Remove}
use Rattle.modulefile.specs.Judgments.{RecordReason, bad_edit, record_reason}

-- what a file is evaluated for
pub data Mode : Type 0 where
  load : Mode
  unload : Mode
  display : Mode
  whatis : Mode

-- what a path command makes of an environment
abbrev pub path_edited : PathEdit → ℕ → Text → List Text → Environment → Result Environment EnvReason
path_edited Front delim var xs e = added_path e var delim xs ends.Front
path_edited Back delim var xs e = added_path e var delim xs ends.Back
path_edited Remove delim var xs e = dropped_path e var delim xs

-- Loading does what the command of the record does.
abbrev pub loaded_by : Text → Record → Environment → Result Environment EnvReason
loaded_by owner (Set var value) e = Ok (with_value e var (Some value))
loaded_by owner (Unset var value) e = Ok (with_value e var None)
loaded_by owner (Push var value) e = pushed_value e var owner value
loaded_by owner (Path edit delim var xs) e = path_edited edit delim var xs e
loaded_by owner (Conflict names) e = Ok e
loaded_by owner (Prereq names) e = Ok e
loaded_by owner (Whatis text) e = Ok e

-- Unloading undoes what loading does, as far as that can be undone.
abbrev pub unloaded_by : Text → Record → Environment → Result Environment EnvReason
unloaded_by owner (Set var value) e = Ok (with_value e var None)
unloaded_by owner (Unset var None) e = Ok e
unloaded_by owner (Unset var (Some value)) e = Ok (with_value e var (Some value))
unloaded_by owner (Push var value) e = popped_value e var owner
unloaded_by owner (Path edit delim var xs) e = if adds_elements edit then dropped_path e var delim xs else Ok e
unloaded_by owner (Conflict names) e = Ok e
unloaded_by owner (Prereq names) e = Ok e
unloaded_by owner (Whatis text) e = Ok e

-- what the record makes of the environment in a mode: in display and whatis it changes nothing
abbrev pub edited : Mode → Text → Record → Environment → Result Environment EnvReason
edited load owner r e = loaded_by owner r e
edited unload owner r e = unloaded_by owner r e
edited display owner r e = Ok e
edited whatis owner r e = Ok e

-- the outcome of an edit, whose reason is then one of records
abbrev pub edit_outcome : Result Environment EnvReason → Result Environment RecordReason
edit_outcome (Ok e) = Ok e
edit_outcome (Err r) = Err (bad_edit r)

-- the outcome where nothing forbids the record
abbrev pub permitted : Option RecordReason → Result Environment RecordReason → Result Environment RecordReason
permitted None outcome = outcome
permitted (Some r) outcome = Err r

-- The record is judged in every mode, and then has its effect.
abbrev pub effect : Mode → Text → Record → Environment → Result Environment RecordReason
effect mode owner r e = permitted (record_reason r) (edit_outcome (edited mode owner r e))

-- what follows an effect that was had
abbrev pub and_then : Result Environment RecordReason → (Environment → Result Environment RecordReason)
    → Result Environment RecordReason
and_then (Ok e) next = next e
and_then (Err r) next = Err r

-- the effects of a list of records, from the first to the last
abbrev pub effects : Mode → Text → List Record → Environment → Result Environment RecordReason
effects mode owner [] e = Ok e
effects mode owner (r ∷ rs) e = and_then (effect mode owner r e) (effects mode owner rs)
