-- A working environment as contracts see it: the environment below, and the one that its edits make of it (own).
use Rattle.std.specs.Prelude.{refl}
use Rattle.std.specs.Coded.{Coded, code_by, coded×}
use Rattle.envvars.specs.Environment.{Environment, environment_code}

-- the environment below, and the edited one
pub record Edited : Type 0 where
  pub old : Environment
  pub new : Environment

-- the two are coded as a pair
abbrev pub edited_code : Coded Edited
edited_code =
    code_by (Environment × Environment) (coded× environment_code environment_code) (λ e. (e.old, e.new))
    (λ p. record { old = p.0; new = p.1 }) (λ _. refl)
