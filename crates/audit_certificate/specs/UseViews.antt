-- What the uses of the code stand for in the definitions (own).
use Rattle.std.specs.Prelude.{string_bytes}
use Rattle.std.specs.Option.{option_map}
use Rattle.reversal.specs.VariableUses as uses
use Rattle.audit_certificate.specs.declared.uses.VariableUse.{VariableUse}
use Rattle.audit_certificate.specs.declared.uses.VariableUse.TheVariants as code
use Rattle.audit_certificate.specs.declared.uses.UsedVariable.{UsedVariable}

-- a use
abbrev pub use_view : VariableUse → uses.VariableUse
use_view (code.Fixed value) = uses.Fixed (option_map string_bytes value)
use_view code.Absent = uses.Absent
use_view (code.Pathed delim) = uses.Pathed delim.character
use_view code.Stacked = uses.Stacked
use_view code.Read = uses.Untouched

-- a variable with its use
abbrev pub used_view : UsedVariable → uses.UsedVariable
used_view p = (string_bytes p.variable, use_view p.used)
