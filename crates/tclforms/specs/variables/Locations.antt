-- What the locations of variables in the program stand for in the rules.
use Rattle.std.specs.Prelude.{Bool, true, false, ◌&&◌, bytes_eq}
use Rattle.tcltext.specs.chars.Runs.{Text}
use Rattle.tclvalue.specs.operators.Faults.{Answer, ◌>>=◌}
use Rattle.tclrules.specs.Variables as rules
use Rattle.tclrules.specs.Variables.{State, env, location_named, sharable}
use Rattle.tclforms.specs.declared.variables.location.Scope.{Scope}
use Rattle.tclforms.specs.declared.variables.location.Scope.TheVariants as scopes
use Rattle.tclforms.specs.declared.variables.location.Scalar.{Scalar}
use Rattle.tclforms.specs.declared.variables.location.Location.{Location}
use Rattle.tclforms.specs.declared.variables.location.Location.TheVariants as locations

-- the flag that the rules have for a scope
abbrev pub is_global : Scope → Bool
is_global scopes.Global = true
is_global scopes.Procedure = false

-- a scalar variable of the program, as the rules have it
abbrev pub scalar_view : Scalar → Bool × Text
scalar_view v = (is_global v.scope, v.name.now)

-- a scalar variable is the global env
abbrev pub is_env : Bool × Text → Bool
is_env p = p.0 && bytes_eq p.1 env

-- a location of the program
abbrev pub location_view : Location → rules.Location
location_view (locations.Scalar v) = rules.Scalar (is_global v.scope) v.name.now
location_view (locations.Element scope index) = rules.Element (is_global scope) index.now

-- the name of the global variable that a name denotes
abbrev pub shared_name : State → Text → Answer Text
shared_name s v = location_named s v >>= sharable
