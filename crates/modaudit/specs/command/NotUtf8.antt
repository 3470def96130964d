-- The variables of the process that aren't UTF-8, so that no environment has them, and what they concern (own).
use Rattle.std.specs.Prelude.{Bool, ◌||◌, List, [], ◌∷◌, bytes_eq, string_bytes, if◌then◌else◌}
use Rattle.std.specs.List.{flat_map, list_any}
use Rattle.envvars.specs.Names.{is_protected}
use Rattle.envvars.specs.Texts.{Text}
use Rattle.audit_certificate.specs.declared.uses.UsedVariable.{UsedVariable}

-- the certificate has a use or a read of the variable
abbrev pub is_used : List UsedVariable → Text → Bool
is_used certificate name = list_any (λ u. bytes_eq (string_bytes u.variable) name) certificate

-- the variable, where a certified module uses or reads it, or the tool keeps it itself
abbrev pub if_concerned : List UsedVariable → Text → List Text
if_concerned certificate name = if is_protected name || is_used certificate name then name ∷ [] else []

-- those of the variables
abbrev pub concerned : List UsedVariable → List Text → List Text
concerned certificate names = flat_map (if_concerned certificate) names
