-- How the rules of evaluation continue after a script (own), by its completion (catch(n)); and when the text of a
-- result may be dropped.
use Rattle.std.specs.Prelude.{◌≡◌, ℕ, ◌≤◌, length, [], Bool, true, false, Result, Ok, Err, string_bytes, String}
use Rattle.std.specs.declared.alloc.Global.{Global}
use Rattle.tcltext.specs.chars.Runs.{Text}
use Rattle.tcltext.specs.declared.chars.fault.TextFault.{TextFault}
use Rattle.tcltext.specs.declared.chars.fault.TextFault.TheVariants as texts
use Rattle.tclvalue.specs.declared.operators.fault.ValueFault.{ValueFault}
use Rattle.tclvalue.specs.declared.operators.fault.ValueFault.TheVariants as faults
use Rattle.tclvalue.specs.operators.Faults.{HasReason}
use Rattle.tcltext.specs.expr.Tree.{Expr}
use Rattle.tcltext.specs.expr.Operands.{Operand}
use Rattle.tcltext.specs.chars.Numerals.{numeral}
use Rattle.tclvalue.specs.operators.Operators.{truth}
use Rattle.tclrules.specs.Expressions.{fault_of, expr, normal}
use Rattle.tclrules.specs.Variables.{State}
use Rattle.tclrules.specs.Plans.{Completion, Normal, Raised, Returned, Broken, Continued, Bounds, Next, Step, ended}
use Rattle.tclrules.specs.Plans.{halt, given, sized}
use Rattle.tclrules.specs.Rules.{turn}
use Rattle.tclforms.specs.substitution.Stops.{error_or_halt}
use Rattle.tclforms.specs.declared.substitution.stop.Stop.{Stop}
use Rattle.tclforms.specs.declared.substitution.stop.Stop.TheVariants as stops
use Rattle.tclcommands.specs.declared.result_use.ResultUse.{ResultUse}
use Rattle.tclcommands.specs.declared.result_use.ResultUse.TheVariants.{Needed}

-- the plan of a script that ended with its last command, whose result is this text
abbrev pub finish : Text → State → Step
finish t s = ended (Normal t s)

-- what follows a result, with the result judged by the limit on values first
abbrev pub sized_next : ℕ → Next → Next
sized_next limit k t s = sized limit t (k t s)

-- this is the text of a result: it is within the limit, and where the result is needed the call gave it
abbrev pub IsTextOfResult : ResultUse → ℕ → Text → Result (String Global) Stop → Type 0
IsTextOfResult result_use limit t (Ok v) = (length t ≤ limit) × (result_use ≡ Needed → string_bytes v ≡ t)
IsTextOfResult result_use limit t (Err f) = Unit {0}

-- a call has a result with such a text, of which this holds
abbrev pub EvaluatesToText : ResultUse → ℕ → Result (String Global) Stop → (Text → Type 0) → Type 0
EvaluatesToText result_use limit result p = (t : Text) × IsTextOfResult result_use limit t result × p t

-- the plan that follows a script, by its completion; a halt ends it
abbrev pub completed : Result (String Global) Stop → (Completion → Step) → State → Step
completed (Ok t) k s = k (Normal (string_bytes t) s)
completed (Err (stops.Fault f)) k s = error_or_halt (λ m. k (Raised m s)) halt f
completed (Err (stops.Returned t)) k s = k (Returned (string_bytes t) s)
completed (Err stops.Broken) k s = k (Broken s)
completed (Err stops.Continued) k s = k (Continued s)

-- the plan of a loop that continues with another turn, or has ended with an empty result
abbrev pub loop_continuation : (State → Step) → Bool → State → Step
loop_continuation again true s = again s
loop_continuation again false s = ended (Normal [] s)

-- the plan of a loop after its condition: another turn where it holds, else the loop has ended with an empty result
abbrev pub guarded : Bounds → Text → (State → Step) → Bool → State → Step
guarded b body again = elim [ true ↦ (λ s. turn b body s again) | false ↦ (λ s. ended (Normal [] s)) ]

-- the fault of an evaluation is that of a text that is no expression, or memory ran out
abbrev pub IsExpressionFault : Text → TextFault → ValueFault → Type 0
IsExpressionFault t texts.OutOfMemory e = e ≡ faults.OutOfMemory
IsExpressionFault t f e = HasReason (fault_of t f) e

-- the fault of an evaluation for a text that can't be parsed
abbrev pub value_fault : TextFault → ValueFault
value_fault texts.OutOfMemory = faults.OutOfMemory
value_fault f = faults.Text f

-- the plan for the value of an expression (expr(n)) whose text is parsed, and for the truth of a condition
abbrev pub expression_plan : Bounds → Expr Operand → State → Next → Step
expression_plan b e s k = expr b e s (λ v s'. given (normal v (numeral v)) s' (λ u. sized b.bytes u (k u s')))

abbrev pub condition_plan : Bounds → Expr Operand → State → (Bool → State → Step) → Step
condition_plan b e s k = expression_plan b e s (λ v s'. given (truth v) s' (λ holds. k holds s'))
