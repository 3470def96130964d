-- The value of an operator between its operands, as the text that Tcl has for it.
use Rattle.std.specs.Fmt.{signed_decimal}
use Rattle.tcltext.specs.chars.Runs.{Text}
use Rattle.tclvalue.specs.operators.Operators.{truth_text}
use Rattle.tclvalue.specs.declared.operators.operators.ComputedValue.{ComputedValue}
use Rattle.tclvalue.specs.declared.operators.operators.ComputedValue.TheVariants as values

abbrev pub computed_text : ComputedValue → Text
computed_text (values.Truth holds) = truth_text holds
computed_text (values.Whole number) = signed_decimal number
