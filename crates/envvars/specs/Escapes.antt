-- Fields that may hold colons: a colon or a backslash that is part of a field has a backslash before it (own).
use Rattle.std.specs.Prelude.{ℕ, Bool, ◌&&◌, ◌||◌, ◌==◌, List, [], ◌∷◌, if◌then◌else◌}
use Rattle.std.specs.List.{onto_first}
use Rattle.envvars.specs.Texts.{Text}
use Rattle.envvars.specs.Fields.{colon}

-- the backslash
abbrev pub backslash : ℕ
backslash = 92

-- a backslash or a colon, which a field has with a backslash before it
abbrev pub is_special : ℕ → Bool
is_special c = c == backslash || c == colon

-- the text with a backslash before each of these
abbrev pub escaped : Text → Text
escaped [] = []
escaped (c ∷ cs) = if is_special c then backslash ∷ c ∷ escaped cs else c ∷ escaped cs

-- The fields, without their escapes. They are separated by the colons that no backslash escapes. A backslash before
-- another character, or at the end, stands for itself.
abbrev pub unescaped_fields : Text → List Text
unescaped_fields [] = [] ∷ []
unescaped_fields (c ∷ []) = if c == colon then [] ∷ [] ∷ [] else (c ∷ []) ∷ []
unescaped_fields (c ∷ k ∷ cs) =
    if c == colon
    then [] ∷ unescaped_fields (k ∷ cs)
    else if c == backslash && is_special k then onto_first k (unescaped_fields cs)
    else onto_first c (unescaped_fields (k ∷ cs))
