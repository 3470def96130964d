-- Why there is no audit: the texts of the faults, and the line on standard error (own).
use Rattle.std.specs.Prelude.{Bool, false, [], ◌++◌, codes, string_bytes}
use Rattle.message.specs.Messages.{Text, quoting}
use Rattle.message.specs.Refusals.{text_about}
use Rattle.message.specs.declared.refusals.RefusalKind.TheVariants as kinds
use Rattle.modules.specs.Answers as steps
use Rattle.modules.specs.Messages as refusals
use Rattle.audit_site.specs.declared.fault.WalkFault.{WalkFault}
use Rattle.audit_site.specs.declared.fault.WalkFault.TheVariants as walks
use Rattle.modulecmd.specs.Lines.{error_line}
use Rattle.modaudit.specs.declared.command.audit_fault.AuditFault.{AuditFault}
use Rattle.modaudit.specs.declared.command.audit_fault.AuditFault.TheVariants.{Refused, BadArguments, EmptyModulepath}
use Rattle.modaudit.specs.declared.command.audit_fault.AuditFault.TheVariants.{TooManyDirectories, NotADirectory}
use Rattle.modaudit.specs.declared.command.audit_fault.AuditFault.TheVariants.{WriteFailed}

-- how the program is called
abbrev pub usage : Text
usage = codes "Usage: modaudit [--quiet] [--json] [--without NAME]... [DIR...]"

-- the text of each fault: that of bad arguments has a second line, which says how the program is called
abbrev pub message_of : AuditFault → Text
message_of (Refused refusal) = refusals.message_of refusal
message_of BadArguments = codes "Bad arguments\n" ++ usage
message_of EmptyModulepath = codes "MODULEPATH has no directory"
message_of TooManyDirectories = codes "Too many directories"
message_of (NotADirectory dir) = quoting (codes "Not a directory: '") (string_bytes dir)
message_of WriteFailed = text_about kinds.WriteFailed []

-- the whole line
abbrev pub line_of : AuditFault → Text
line_of fault = error_line (message_of fault)

-- the fault of a walk over the site
abbrev pub of_walk : WalkFault → AuditFault
of_walk (walks.Refused refusal) = Refused refusal
of_walk walks.TooManyDirectories = TooManyDirectories

-- the fault is by 43
abbrev pub is_failure : AuditFault → Bool
is_failure (Refused refusal) = steps.is_failure refusal
is_failure BadArguments = false
is_failure EmptyModulepath = false
is_failure TooManyDirectories = false
is_failure (NotADirectory dir) = false
is_failure WriteFailed = false
