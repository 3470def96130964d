-- The lines of an input, by their words (own).
use Rattle.std.specs.Prelude.{◌==◌, List, [], ◌∷◌}
use Rattle.std.specs.List.{flat_map, slice_split}
use Rattle.envvars.specs.Texts.{Text}

-- the list, unless it is empty
abbrev pub unless_empty : {X : Type 0} → List X → List (List X)
unless_empty [] = []
unless_empty (x ∷ xs) = (x ∷ xs) ∷ []

-- the words between the tabs of a text: an empty piece is none
abbrev pub words_between_tabs : Text → List Text
words_between_tabs text = flat_map unless_empty (slice_split (λ b. b == 9) text)

-- the words of a line, which spaces and tabs part
abbrev pub words_in : Text → List Text
words_in line = flat_map words_between_tabs (slice_split (λ b. b == 32) line)

-- the words of a line, unless it has none
abbrev pub line_words : Text → List (List Text)
line_words line = unless_empty (words_in line)

-- the words of each line that has some
abbrev pub lines_in : Text → List (List Text)
lines_in text = flat_map line_words (slice_split (λ b. b == 10) text)
