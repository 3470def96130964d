-- Lists of texts (own).
use Rattle.std.specs.Prelude.{Bool, true, false, List, [], ◌∷◌, filter}
use Rattle.message.specs.Messages.{Text}

-- the text has a letter
abbrev pub is_filled : Text → Bool
is_filled [] = false
is_filled (b ∷ text) = true

-- those that aren't empty
abbrev pub filled : List Text → List Text
filled texts = filter is_filled texts
