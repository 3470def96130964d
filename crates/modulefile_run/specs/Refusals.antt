-- The fault of a file for the fault of a command or of an edit (own).
use Rattle.envvars.specs.declared.fault.EnvFault.{EnvFault}
use Rattle.envvars.specs.declared.fault.EnvFault.TheVariants as edits
use Rattle.modulefile.specs.declared.record_fault.RecordFault.TheVariants.{Env}
use Rattle.modulefile_run.specs.declared.run_stop.RunStop.{RunStop}
use Rattle.modulefile_run.specs.declared.run_stop.RunStop.TheVariants as runs
use Rattle.modulefile_run.specs.declared.command_refusal.CommandRefusal.{CommandRefusal}
use Rattle.modulefile_run.specs.declared.command_refusal.CommandRefusal.TheVariants as refusals

-- for an edit of the variables
abbrev pub fault_of_edit : EnvFault → RunStop
fault_of_edit edits.OutOfMemory = runs.OutOfMemory
fault_of_edit (edits.BadVariable name) = runs.BadRecord (Env (edits.BadVariable name))
fault_of_edit (edits.Protected name) = runs.BadRecord (Env (edits.Protected name))
fault_of_edit (edits.CounterFull name) = runs.BadRecord (Env (edits.CounterFull name))
fault_of_edit edits.Inconsistent = runs.BadRecord (Env edits.Inconsistent)
fault_of_edit (edits.BadStack name) = runs.BadRecord (Env (edits.BadStack name))
fault_of_edit (edits.BadValue name) = runs.BadRecord (Env (edits.BadValue name))

-- for a refused command
abbrev pub fault_of : CommandRefusal → RunStop
fault_of refusals.BadArguments = runs.BadArguments
fault_of (refusals.BadRecord fault) = runs.BadRecord fault
