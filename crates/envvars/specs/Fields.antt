-- Texts that are lists of fields with a separator between them, as PATH is (POSIX XBD 8.3).
use Rattle.std.specs.Prelude.{ℕ, Bool, true, not, ◌&&◌, ◌==◌, List, [], ◌∷◌, filter, bytes_eq, Option, Some, None}
use Rattle.std.specs.List.{slice_split, join_with_byte}
use Rattle.envvars.specs.Texts.{Text, has}

-- the separator of fields
abbrev pub colon : ℕ
colon = 58

-- the separator of parts within a field of a stack or of the loaded modules
abbrev pub ampersand : ℕ
ampersand = 38

-- the parts of a text between its colons
abbrev pub fields : Text → List Text
fields t = slice_split (λ b. b == colon) t

-- the parts with colons between them
abbrev pub joined : List Text → Text
joined xs = join_with_byte colon xs

-- the text of a list of elements; the empty list unsets the variable
abbrev pub text_of_elements : List Text → Option Text
text_of_elements [] = None
text_of_elements (x ∷ xs) = Some (joined (x ∷ xs))

-- the elements of a variable's text; an unset or empty text has none
abbrev pub elements_in : Option Text → List Text
elements_in None = []
elements_in (Some []) = []
elements_in (Some (b ∷ bs)) = fields (b ∷ bs)

-- the list without every occurrence of x
abbrev pub without : Text → List Text → List Text
without x xs = filter (λ y. not (bytes_eq y x)) xs

-- the list without repetitions, in the order of first occurrences
abbrev pub without_repeats : List Text → List Text
without_repeats [] = []
without_repeats (x ∷ xs) = x ∷ without x (without_repeats xs)

-- no element is there twice
abbrev pub are_distinct : List Text → Bool
are_distinct [] = true
are_distinct (x ∷ xs) = not (has x xs) && are_distinct xs
