-- What the stops of the program mean in the rules of evaluation (own), by the completion codes of catch(n).
use Rattle.std.specs.Prelude.{Result, Ok, Err, string_bytes}
use Rattle.tcltext.specs.chars.Runs.{Text}
use Rattle.tcltext.specs.declared.chars.fault.TextFault.{TextFault}
use Rattle.tclvalue.specs.declared.operators.fault.ValueFault.{ValueFault}
use Rattle.tclrules.specs.Derivation as rules
use Rattle.tclrules.specs.Variables.{State}
use Rattle.tclrules.specs.Plans.{Step, Returned, Broken, Continued, ended, halt, raise}
use Rattle.tclrules.specs.Faults.{fault_of_text, fault_of_value}
use Rattle.tclrules.specs.declared.outcome.EvalFault.{EvalFault}
use Rattle.tclrules.specs.declared.outcome.EvalFault.TheVariants as faults
use Rattle.tclforms.specs.declared.substitution.stop.Stop.{Stop}
use Rattle.tclforms.specs.declared.substitution.stop.Stop.TheVariants as stops

-- what `error` makes of the message of an error, and what `halt` makes of the halt of the rules that any other fault
-- stands for
abbrev pub error_or_halt : {A : Type 0} → (Text → A) → (rules.Halt → A) → EvalFault → A
error_or_halt error halt faults.OutOfMemory = halt rules.OutOfMemory
error_or_halt error halt (faults.Text f) = halt (rules.BadText f)
error_or_halt error halt (faults.TclError m line) = error (string_bytes m)
error_or_halt error halt faults.TooManyCommands = halt rules.TooManyCommands
error_or_halt error halt faults.TooDeep = halt rules.TooDeep
error_or_halt error halt faults.ValueTooLong = halt rules.ValueTooLong
error_or_halt error halt faults.NumberTooLarge = halt rules.NumberTooLarge
error_or_halt error halt faults.FractionOperand = halt rules.FractionOperand
error_or_halt error halt (faults.LeftOut name) = halt (rules.LeftOut (string_bytes name))
error_or_halt error halt faults.Stopped = halt rules.Stopped
error_or_halt error halt (faults.Host n) = halt (rules.ByHost n)

-- the plan of the rules that ends as this stop does, in this state
abbrev pub stopped : Stop → State → Step
stopped (stops.Fault f) s = error_or_halt (λ m. raise m s) halt f
stopped (stops.Returned t) s = ended (Returned (string_bytes t) s)
stopped stops.Broken s = ended (Broken s)
stopped stops.Continued s = ended (Continued s)

-- the plan of the rules after a call: it continues with the value, or ends as the stop does
abbrev pub after : {A : Type 0} → Result A Stop → (A → State → Step) → State → Step
after (Ok a) k s = k a s
after (Err f) k s = stopped f s

-- the stop for a fault of values
abbrev pub stop_of : ValueFault → Stop
stop_of f = stops.Fault (fault_of_value f)

-- the stop for a text that can't be parsed
abbrev pub text_stop : TextFault → Stop
text_stop f = stops.Fault (fault_of_text f)
