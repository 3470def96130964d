-- The names of collections (module(1), save).
use Rattle.std.specs.Prelude.{ℕ, Bool, false, not, ◌&&◌, ◌||◌, [], ◌∷◌, ◌==◌, nat_lt}
use Rattle.std.specs.List.{list_any}
use Rattle.envvars.specs.Texts.{Text}
use Rattle.module_collections.specs.files.Entries.{slash}

-- a byte that no name has: a slash, or a control character of ASCII
abbrev pub is_barred : ℕ → Bool
is_barred b = b == slash || nat_lt b 32 || b == 127

-- a byte that is no name's first: a point, or a hyphen
abbrev pub is_barred_first : ℕ → Bool
is_barred_first b = b == 46 || b == 45

-- a text with none of these, and not empty
abbrev pub is_collection_name : Text → Bool
is_collection_name [] = false
is_collection_name (b ∷ bs) = not (is_barred_first b) && not (list_any is_barred (b ∷ bs))
