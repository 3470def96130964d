-- Why there is no value, and what a call of this crate answers. Running out of memory is no reason: any call may do so.
use Rattle.std.specs.Prelude.{◌≡◌, [], string_bytes, String, Option, Some, None, IfSome, Result, Ok, Err}
use Rattle.std.specs.declared.alloc.Global.{Global}
use Rattle.message.specs.Answers.{Gives}
use Rattle.message.specs.Refusals.{NumberedText, about, saying}
use Rattle.message.specs.declared.refusals.RefusalKind.TheVariants as kinds
use Rattle.tcltext.specs.chars.Faults as texts
use Rattle.tcltext.specs.chars.Runs.{Text}
use Rattle.tcltext.specs.declared.chars.fault.TextFault.{TextFault}
use Rattle.tclvalue.specs.declared.operators.fault.ValueFault.{ValueFault}
use Rattle.tclvalue.specs.declared.operators.fault.ValueFault.TheVariants as faults

-- why there is no value
pub data ValueReason : Type 0 where
  text : (fault : TextFault) → ValueReason
  error : (message : Text) → ValueReason
  value_too_long : ValueReason
  number_too_large : ValueReason
  fraction : ValueReason
  unsupported : (name : Text) → ValueReason

-- a value, or the reason why there is none
abbrev pub Answer : Type 0 → Type 0
Answer A = Result A ValueReason

-- goes on with a value; the first reason ends it
infixl 10 ◌>>=◌
abbrev pub ◌>>=◌ : {A B : Type 0} → Answer A → (A → Answer B) → Answer B
(Ok x) >>= f = f x
(Err e) >>= f = Err e

-- the reason that a fault of the program stands for; running out of memory is none
abbrev pub reason_of : ValueFault → Option ValueReason
reason_of faults.OutOfMemory = None
reason_of (faults.Text fault) = Some (text fault)
reason_of (faults.TclError message) = Some (error (string_bytes message))
reason_of faults.ValueTooLong = Some value_too_long
reason_of faults.NumberTooLarge = Some number_too_large
reason_of faults.FractionOperand = Some fraction
reason_of (faults.LeftOut name) = Some (unsupported (string_bytes name))

-- the refusal that a fault is; an error of Tcl has no line here
abbrev pub refusal_of : ValueFault → NumberedText
refusal_of faults.OutOfMemory = about kinds.MemoryForEvaluation []
refusal_of (faults.Text fault) = saying kinds.BadText (texts.refusal_of fault).text
refusal_of (faults.TclError message) = saying kinds.TclError (string_bytes message)
refusal_of faults.ValueTooLong = about kinds.ValueTooLong []
refusal_of faults.NumberTooLarge = about kinds.NumberTooLarge []
refusal_of faults.FractionOperand = about kinds.FractionOperand []
refusal_of (faults.LeftOut name) = about kinds.LeftOut (string_bytes name)

-- a fault has this reason, or memory ran out
abbrev pub HasReason : ValueReason → ValueFault → Type 0
HasReason reason e = IfSome (reason_of e) (λ r. r ≡ reason)

-- a call gave the text of this answer, or its reason, unless memory ran out
abbrev pub GivesText : Result (String Global) ValueFault → Answer Text → Type 0
GivesText result answer = Gives reason_of string_bytes result answer
