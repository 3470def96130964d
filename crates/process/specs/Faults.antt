-- The errors of arguments and of an input, as refusals (own).
use Rattle.std.specs.Prelude.{[]}
use Rattle.message.specs.Refusals.{NumberedText, about}
use Rattle.message.specs.declared.refusals.RefusalKind.TheVariants as kinds
use Rattle.process.specs.declared.input.InputFault.{InputFault}
use Rattle.process.specs.declared.input.InputFault.TheVariants.{OutOfMemory, ReadFailed, BadInput}

abbrev pub refusal_of : InputFault → NumberedText
refusal_of OutOfMemory = about kinds.MemoryForRequest []
refusal_of ReadFailed = about kinds.Device []
refusal_of BadInput = about kinds.BadArguments []
