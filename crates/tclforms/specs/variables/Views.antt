-- What the variables and procedures of the program stand for in the rules.
use Rattle.std.specs.Prelude.{List, map, string_bytes, option_map, String}
use Rattle.std.specs.declared.alloc.Global.{Global}
use Rattle.tcltext.specs.chars.Runs.{Text}
use Rattle.tclrules.specs.Variables as rules
use Rattle.tclrules.specs.Variables.{State}
use Rattle.tclforms.specs.declared.variables.variables.Parameter.{Parameter}
use Rattle.tclforms.specs.declared.variables.variables.Procedure.{Procedure}
use Rattle.tclforms.specs.declared.variables.local.Local.TheInside as local
use Rattle.tclforms.specs.declared.variables.variables.Variables.TheInside.{Inside}

-- variables with their texts, in the order of their making
abbrev pub texts_of : List (String Global × Text) → rules.Variables
texts_of entries = map (λ e. (string_bytes e.0, e.1)) entries

-- the frame of a procedure
abbrev pub local_view : local.Inside → rules.Frame
local_view l = record { own = texts_of l.own.entries; shared = map string_bytes l.shared.keys }

abbrev pub parameter_view : Parameter → rules.Parameter
parameter_view p = (string_bytes p.name, option_map string_bytes p.default)

abbrev pub procedure_view : Procedure → rules.Procedure
procedure_view p = record { parameters = map parameter_view p.parameters.items; body = string_bytes p.body }

-- all of them are the state of the rules
abbrev pub variables_view : Inside → State
variables_view v = record {
  reserved = map (λ n. n.now) v.reserved.now;
  globals = texts_of v.globals.entries;
  frame = v.local;
  procedures = map (λ e. (string_bytes e.0, procedure_view e.1.value)) v.procedures.entries;
}
