-- The faults of texts as refusals, and the limits of a text that is parsed (own).
use Rattle.std.specs.Prelude.{ℕ, [], decimal}
use Rattle.message.specs.Refusals.{NumberedText, about}
use Rattle.message.specs.declared.refusals.RefusalKind.TheVariants as kinds
use Rattle.tcltext.specs.declared.chars.fault.TextFault.{TextFault}
use Rattle.tcltext.specs.declared.chars.fault.TextFault.TheVariants.{OutOfMemory, OpenBrace, OpenQuote, OpenBracket}
use Rattle.tcltext.specs.declared.chars.fault.TextFault.TheVariants.{JoinedToClose, TooDeep, BadCharacter, BadExpression}
use Rattle.tcltext.specs.declared.chars.fault.TextFault.TheVariants.{TooLong}

-- the longest text that is parsed, in bytes
abbrev pub max_bytes : ℕ
max_bytes = 1048576

-- the deepest nesting of brackets, parentheses and operators
abbrev pub max_nesting : ℕ
max_nesting = 200

-- the refusal that a fault is, with its byte offset
abbrev pub refusal_of : TextFault → NumberedText
refusal_of OutOfMemory = about kinds.MemoryForText []
refusal_of (OpenBrace at) = about kinds.OpenBrace (decimal at)
refusal_of (OpenQuote at) = about kinds.OpenQuote (decimal at)
refusal_of (OpenBracket at) = about kinds.OpenBracket (decimal at)
refusal_of (JoinedToClose at) = about kinds.JoinedToClose (decimal at)
refusal_of TooDeep = about kinds.TextTooDeep []
refusal_of (BadCharacter at) = about kinds.BadCharacter (decimal at)
refusal_of (BadExpression at) = about kinds.BadExpression (decimal at)
refusal_of TooLong = about kinds.TooLong []
