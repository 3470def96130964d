-- What the records of the code and their faults stand for in the definitions (own).
use Rattle.std.specs.Prelude.{string_bytes, Option, Some}
use Rattle.std.specs.Option.{option_map}
use Rattle.envvars.specs.Texts.{texts_in}
use Rattle.envvars.specs.Reasons.{reason_of}
use Rattle.modulefile.specs.Records as records
use Rattle.modulefile.specs.Judgments.{RecordReason, bad_edit, bad_module_name}
use Rattle.modulefile.specs.Effects as effects
use Rattle.modulefile.specs.declared.records.Record.{Record}
use Rattle.modulefile.specs.declared.records.Record.TheVariants as code
use Rattle.modulefile.specs.declared.records.Mode.{Mode}
use Rattle.modulefile.specs.declared.records.Mode.TheVariants as modes
use Rattle.modulefile.specs.declared.record_fault.RecordFault.{RecordFault}
use Rattle.modulefile.specs.declared.record_fault.RecordFault.TheVariants as faults

-- a mode
abbrev pub mode_view : Mode → effects.Mode
mode_view modes.Load = effects.load
mode_view modes.Unload = effects.unload
mode_view modes.Display = effects.display
mode_view modes.Whatis = effects.whatis

-- a record
abbrev pub record_view : Record → records.Record
record_view (code.Set var value) = records.Set (string_bytes var) (string_bytes value)
record_view (code.Unset var value) = records.Unset (string_bytes var) (option_map string_bytes value)
record_view (code.Push var value) = records.Push (string_bytes var) (string_bytes value)
record_view (code.Path edit delim var elements) = records.Path edit delim.character (string_bytes var)
    (texts_in elements)
record_view (code.Conflict names) = records.Conflict (texts_in names)
record_view (code.Prereq names) = records.Prereq (texts_in names)
record_view (code.Whatis text) = records.Whatis (string_bytes text)

-- the reason that a fault names; want of memory is none
abbrev pub fault_reason : RecordFault → Option RecordReason
fault_reason (faults.Env fault) = option_map bad_edit (reason_of fault)
fault_reason (faults.BadModuleName name) = Some (bad_module_name (string_bytes name))
