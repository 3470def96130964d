-- For the contracts of private functions: a text with escapes of which a prefix has been read.
use Rattle.std.specs.Prelude.{Bool, List, [], ◌∷◌, ◌++◌, map, string_bytes, if◌then◌else◌}
use Rattle.envvars.specs.declared.escapes.FieldReader.{FieldReader}
use Rattle.envvars.specs.Texts.{Text}
use Rattle.envvars.specs.Escapes.{backslash, unescaped_fields}

-- the fields, with this text at the beginning of the first
abbrev pub onto_first_field : Text → List Text → List Text
onto_first_field text [] = text ∷ []
onto_first_field text (field ∷ fields) = (text ++ field) ∷ fields

-- the unread rest, with the backslash before it that may escape its first character
abbrev pub with_pending_escape : Bool → Text → Text
with_pending_escape escapes rest = if escapes then backslash ∷ rest else rest

-- the fields of a whole text: those that are read, the one that is being read, and those of the unread rest
abbrev pub fields_with_rest : FieldReader → Text → List Text
fields_with_rest reading rest =
    map string_bytes reading.fields.items
    ++ onto_first_field (string_bytes reading.field) (unescaped_fields (with_pending_escape reading.escapes rest))
