-- What the example host was asked (own): its mode never changes, nor does its environment.
use Rattle.std.specs.Prelude.{true, map, string_bytes}
use Rattle.message.specs.Messages.{Text}
use Rattle.tclrules.specs.Oracle.{Question, OfCommand, OfVariable, Done, Nothing}
use Rattle.tclrules.specs.Variables.{Variables, lookup}
use Rattle.cases_tcl.specs.declared.recorder.Asked.{Asked}
use Rattle.cases_tcl.specs.declared.recorder.Asked.TheVariants.{Mode, Variable}

abbrev pub asked_view : Text → Variables → Asked → Question
asked_view mode environment (Mode words) = OfCommand (map string_bytes words.items) (Done mode Nothing true)
asked_view mode environment (Variable name) = OfVariable (string_bytes name) (lookup environment (string_bytes name))
