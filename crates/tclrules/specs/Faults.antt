-- The faults of an evaluation: what they are as refusals, and what they are made of.
use Rattle.std.specs.Prelude.{[], decimal, string_bytes}
use Rattle.message.specs.Messages.{at_line}
use Rattle.message.specs.Refusals.{NumberedText, about, saying}
use Rattle.message.specs.declared.refusals.RefusalKind.TheVariants as kinds
use Rattle.tcltext.specs.chars.Faults as text_faults
use Rattle.tcltext.specs.declared.chars.fault.TextFault.{TextFault}
use Rattle.tcltext.specs.declared.chars.fault.TextFault.TheVariants as texts
use Rattle.tclvalue.specs.declared.operators.fault.ValueFault.{ValueFault}
use Rattle.tclvalue.specs.declared.operators.fault.ValueFault.TheVariants as values
use Rattle.tclrules.specs.declared.outcome.EvalFault.{EvalFault}
use Rattle.tclrules.specs.declared.outcome.EvalFault.TheVariants as fault

-- the refusal that a fault is
abbrev pub refusal_of : EvalFault → NumberedText
refusal_of fault.OutOfMemory = about kinds.MemoryForEvaluation []
refusal_of (fault.Text f) = saying kinds.BadText (text_faults.refusal_of f).text
refusal_of (fault.TclError message line) = saying kinds.TclError (at_line (string_bytes message) line)
refusal_of fault.TooManyCommands = about kinds.TooManyCommands []
refusal_of fault.TooDeep = about kinds.EvaluationTooDeep []
refusal_of fault.ValueTooLong = about kinds.ValueTooLong []
refusal_of fault.NumberTooLarge = about kinds.NumberTooLarge []
refusal_of fault.FractionOperand = about kinds.FractionOperand []
refusal_of (fault.LeftOut name) = about kinds.LeftOut (string_bytes name)
refusal_of fault.Stopped = about kinds.Stopped []
refusal_of (fault.Host n) = about kinds.Host (decimal n)

-- the fault for a text that can't be parsed
abbrev pub fault_of_text : TextFault → EvalFault
fault_of_text texts.OutOfMemory = fault.OutOfMemory
fault_of_text f = fault.Text f

-- the fault for a fault of values; the line of an error isn't known yet
abbrev pub fault_of_value : ValueFault → EvalFault
fault_of_value values.OutOfMemory = fault.OutOfMemory
fault_of_value (values.Text f) = fault.Text f
fault_of_value (values.TclError m) = fault.TclError m 0
fault_of_value values.ValueTooLong = fault.ValueTooLong
fault_of_value values.NumberTooLarge = fault.NumberTooLarge
fault_of_value values.FractionOperand = fault.FractionOperand
fault_of_value (values.LeftOut name) = fault.LeftOut name
