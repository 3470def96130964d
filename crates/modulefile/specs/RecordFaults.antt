-- The faults of records as refusals (own): that of the variable's fault, or 44.
use Rattle.std.specs.Prelude.{string_bytes}
use Rattle.message.specs.Refusals.{NumberedText, about}
use Rattle.message.specs.declared.refusals.RefusalKind.TheVariants as kinds
use Rattle.envvars.specs.Reasons as edits
use Rattle.modulefile.specs.declared.record_fault.RecordFault.{RecordFault}
use Rattle.modulefile.specs.declared.record_fault.RecordFault.TheVariants.{Env, BadModuleName}

abbrev pub refusal_of : RecordFault → NumberedText
refusal_of (Env fault) = edits.refusal_of fault
refusal_of (BadModuleName name) = about kinds.BadName (string_bytes name)
