-- The faults as refusals, and the line on standard error that says why a command is refused (own).
use Rattle.std.specs.Prelude.{[], ◌∷◌, ◌++◌, codes, string_bytes}
use Rattle.message.specs.Messages.{Text}
use Rattle.message.specs.Refusals.{NumberedText, about}
use Rattle.message.specs.declared.refusals.RefusalKind.TheVariants as kinds
use Rattle.modules.specs.Messages as requests
use Rattle.shelltext.specs.Printing as prints
use Rattle.modulecmd.specs.declared.command_fault.CommandFault.{CommandFault}
use Rattle.modulecmd.specs.declared.command_fault.CommandFault.TheVariants.{Refused, Unprinted, UnknownShell}
use Rattle.modulecmd.specs.declared.command_fault.CommandFault.TheVariants.{WriteFailed}

-- that of its layer's fault, or its own
abbrev pub refusal_of : CommandFault → NumberedText
refusal_of (Refused refusal) = requests.refusal_of refusal
refusal_of (Unprinted fault) = prints.refusal_of fault
refusal_of (UnknownShell word) = about kinds.UnknownShell (string_bytes word)
refusal_of WriteFailed = about kinds.WriteFailed []

-- the text of a fault
abbrev pub message_of : CommandFault → Text
message_of fault = (refusal_of fault).text

-- the error line with this text
abbrev pub error_line : Text → Text
error_line message = codes "ERROR: " ++ (message ++ 10 ∷ [])

-- the whole line
abbrev pub line_of : CommandFault → Text
line_of fault = error_line (message_of fault)
