-- The mark of a default in a listing.
use Rattle.std.specs.Prelude.{Bool, false, Option, Some, None, bytes_eq}
use Rattle.modulename.specs.ModuleName.{Text}

-- the name is that of the default, if there is one
abbrev pub is_marked_by : Option Text → Text → Bool
is_marked_by None name = false
is_marked_by (Some default) name = bytes_eq default name
