-- The names of variables (POSIX XBD 3.235, Name), the protected ones (module(1), ENVIRONMENT), and which values a
-- variable can have (environ(7)).
use Rattle.std.specs.Prelude.{ℕ, Bool, false, not, ◌&&◌, ◌||◌, ◌==◌, [], ◌∷◌, ◌++◌, nat_le, nat_eq, bytes_eq, codes}
use Rattle.std.specs.Prelude.{Option, Some, None, if◌then◌else◌}
use Rattle.std.specs.List.{list_all, starts_with}
use Rattle.envvars.specs.Texts.{Text}
use Rattle.envvars.specs.Reasons.{EnvReason, bad_variable, protected}

-- a letter or an underscore
abbrev pub is_name_start : ℕ → Bool
is_name_start b = (nat_le 65 b && nat_le b 90) || (nat_le 97 b && nat_le b 122) || b == 95

-- a letter, a digit or an underscore
abbrev pub is_name_byte : ℕ → Bool
is_name_byte b = is_name_start b || (nat_le 48 b && nat_le b 57)

-- letters, digits and underscores, and no digit first
abbrev pub is_variable_name : Text → Bool
is_variable_name [] = false
is_variable_name (b ∷ bs) = is_name_start b && list_all is_name_byte bs

-- the variables that hold the tool's own state, which no modulefile may edit
abbrev pub is_protected : Text → Bool
is_protected name =
    bytes_eq name (codes "LOADEDMODULES") || bytes_eq name (codes "_LMFILES_")
    || starts_with nat_eq name (codes "__MODULES_")

-- the variable that holds the counters of a path variable
abbrev pub share_name : Text → Text
share_name name = codes "__MODULES_SHARE_" ++ name

-- the variable that holds the stack of a variable
abbrev pub stack_name : Text → Text
stack_name name = codes "__MODULES_PUSHENV_" ++ name

-- a value that a variable can have: one without NUL
abbrev pub is_nul_free : Text → Bool
is_nul_free value = list_all (λ b. not (b == 0)) value

-- the error where a modulefile may not edit a variable of this name, none where it may
abbrev pub name_reason : Text → Option EnvReason
name_reason name =
    if is_variable_name name
    then if is_protected name then Some (protected name) else None
    else Some (bad_variable name)
