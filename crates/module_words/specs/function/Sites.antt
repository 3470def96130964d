-- The file of a site with the directories that are searched where a user has no MODULEPATH (module(1)).
use Rattle.std.specs.Prelude.{ℕ, Bool, true, false, not, ◌&&◌, ◌||◌, ◌==◌, List, [], ◌∷◌, ◌++◌, filter, map, if◌then◌else◌}
use Rattle.std.specs.List.{join_with_byte, slice_split}
use Rattle.message.specs.Messages.{Text}

-- a blank or a tabulator
abbrev pub is_blank : ℕ → Bool
is_blank b = (b == 32) || (b == 9)

-- the text without the blanks at its front
abbrev pub unblanked : Text → Text
unblanked [] = []
unblanked (b ∷ text) = if is_blank b then unblanked text else b ∷ text

-- nothing is there
abbrev pub is_empty : Text → Bool
is_empty [] = true
is_empty (b ∷ text) = false

-- a blank stands in front, or a `#`
abbrev pub begins_blank : Text → Bool
begins_blank [] = false
begins_blank (b ∷ text) = is_blank b

abbrev pub is_comment : Text → Bool
is_comment [] = false
is_comment (b ∷ text) = b == 35

-- there are only blanks, or a comment behind some
abbrev pub is_over : Text → Bool
is_over text = is_empty (unblanked text) || (begins_blank text && is_comment (unblanked text))

-- the text up to where it is over
abbrev pub content : Text → Text
content [] = []
content (b ∷ text) = if is_over (b ∷ text) then [] else b ∷ content text

-- The directory in a line, without blanks around it; nothing, if the line is a comment.
abbrev pub directory : Text → Text
directory line = if is_comment (unblanked line) then [] else content (unblanked line)

-- the directories in some lines
abbrev pub directories : List Text → List Text
directories lines = filter (λ t. not (is_empty t)) (map directory lines)

-- the same joined by colons, as MODULEPATH has them
abbrev pub joined_lines : List Text → Text
joined_lines lines = join_with_byte 58 (directories lines)

-- The directories in a text, one a line.
abbrev pub site_directories : Text → Text
site_directories text = joined_lines (slice_split (λ b. b == 10) text)

-- a text with a directory more
abbrev pub with_directory : Text → Text → Text
with_directory joined [] = joined
with_directory [] (b ∷ one) = b ∷ one
with_directory (c ∷ joined) (b ∷ one) = (c ∷ joined) ++ 58 ∷ (b ∷ one)
