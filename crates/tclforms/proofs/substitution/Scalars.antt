-- Plans of scalar variables: the array of the environment is no scalar, and any other variable is one.
use Rattle.std.proofs.Common.{◌≡◌, Bool, true, false, refl}
use Rattle.tcltext.specs.chars.Runs.{Text}
use Rattle.tclrules.specs.Messages.{is_array, no_variable}
use Rattle.tclrules.specs.Plans.{Next, raise}
use Rattle.tclrules.specs.Variables.{State, value_at}
use Rattle.tclrules.specs.Words.{found, read_scalar}
use Rattle.tclforms.specs.variables.Locations.{is_env}

pub array_raises : (spelled : Text) (p : Bool × Text) (s : State) (k : Next) → is_env p ≡ true → read_scalar spelled p.0 p.1 s k ≡ raise (is_array spelled) s
array_raises spelled (true, n) s k h = rw h refl
array_raises spelled (false, n) s k h = cc

pub scalar_found : (spelled : Text) (p : Bool × Text) (s : State) (k : Next) → is_env p ≡ false → read_scalar spelled p.0 p.1 s k ≡ found (no_variable spelled) s k (value_at s p)
scalar_found spelled (true, n) s k h = rw h refl
scalar_found spelled (false, n) s k h = refl
