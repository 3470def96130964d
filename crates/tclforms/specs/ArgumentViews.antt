-- What the arguments of the program stand for in the rules: values of names, and the items of foreach. Own.
use Rattle.std.specs.Prelude.{ℕ, ◌*◌, List, map, length, drop, string_bytes, String}
use Rattle.std.specs.Borrow.{Bor}
use Rattle.std.specs.declared.alloc.Global.{Global}
use Rattle.tcltext.specs.chars.Runs.{Text}
use Rattle.tclrules.specs.Plans.{Items}
use Rattle.tclforms.specs.Views.{texts_of}
use Rattle.tclforms.specs.declared.calls.ParameterValue.{ParameterValue}
use Rattle.tclforms.specs.declared.items.Items as program

-- names with their values
abbrev pub named_values : List (Bor (List ℕ) × String Global) → List (Text × Text)
named_values vs = map (λ v. (v.0.now, string_bytes v.1)) vs

-- the value of a parameter, and the words that remain
abbrev pub parameter_value_view : ParameterValue → Text × List Text
parameter_value_view t = (string_bytes t.value, texts_of t.rest.now)

-- the items of a list that remain after so many turns, with its variables
abbrev pub remaining_after : ℕ → program.Items → Items
remaining_after turns l = (texts_of l.names.items, drop (turns * length l.names.items) (texts_of l.items.items))
