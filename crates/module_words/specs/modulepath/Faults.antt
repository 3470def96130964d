-- Why `use` and `unuse` are refused, with the texts (docs/REFUSALS.md, "Of the function alone").
use Rattle.std.specs.Prelude.{codes, string_bytes, Option, Some, None}
use Rattle.message.specs.Messages.{around, quoting}
use Rattle.envvars.specs.Texts.{Text}
use Rattle.module_words.specs.declared.modulepath.fault.ModulePathFault.{ModulePathFault}
use Rattle.module_words.specs.declared.modulepath.fault.ModulePathFault.TheVariants as faults

-- why words give no list
pub data PathReason : Type 0 where
  no_name : PathReason
  no_working_directory : (word : Text) → PathReason
  has_colon : (path : Text) → PathReason
  too_long : PathReason

-- the reason of a fault of the code; want of memory is none
abbrev pub reason_of : ModulePathFault → Option PathReason
reason_of faults.OutOfMemory = None
reason_of faults.NoName = Some no_name
reason_of (faults.NoWorkingDirectory word) = Some (no_working_directory (string_bytes word))
reason_of (faults.HasColon path) = Some (has_colon (string_bytes path))
reason_of faults.TooLong = Some too_long

-- what stands behind `ERROR: `
abbrev pub message_of : ModulePathFault → Text
message_of faults.OutOfMemory = codes "Out of memory"
message_of faults.NoName = codes "Bad value of 'MODULEPATH': a directory without a name"
message_of (faults.NoWorkingDirectory word) = quoting (codes "There is no working directory for '") (string_bytes word)
message_of (faults.HasColon path) =
    around (codes "Bad value of 'MODULEPATH': '") (string_bytes path) (codes "' has a colon")
message_of faults.TooLong = codes "Bad value of 'MODULEPATH': it is too long"
