-- The elements of a list as an answer (list(n)).
use Rattle.std.specs.Prelude.{List, map, string_bytes, String, Result, Ok, Err}
use Rattle.std.specs.declared.vec.Vec.{Vec}
use Rattle.std.specs.declared.alloc.Global.{Global}
use Rattle.tcltext.specs.declared.chars.fault.TextFault.{TextFault}
use Rattle.tcltext.specs.declared.chars.fault.TextFault.TheVariants.{TooLong}
use Rattle.tcltext.specs.chars.Runs.{Text}
use Rattle.tcltext.specs.list.ListReading.{list_of}
use Rattle.tclvalue.specs.operators.Faults.{Answer, text, error}
use Rattle.tclvalue.specs.operators.Messages.{not_a_list}

-- a text that is too long isn't parsed, so nothing is known of it; any other fault of the parser means that it is no
-- list
abbrev pub listed : Result (List Text) TextFault → Answer (List Text)
listed (Ok es) = Ok es
listed (Err TooLong) = Err (text TooLong)
listed (Err f) = Err (error not_a_list)

-- the elements of the list that a text is
abbrev pub elements_of : Text → Answer (List Text)
elements_of t = listed (list_of t)

-- the texts in a vector of the program
abbrev pub texts_in : Vec (String Global) Global → List Text
texts_in v = map string_bytes v.items
