-- The four variables of the loaded modules (module(1), ENVIRONMENT): their names, how elements are written in their
-- texts, and what an element is read as.
use Rattle.std.specs.Prelude.{ℕ, Bool, true, false, not, ◌&&◌, ◌==◌, List, [], ◌∷◌, map, filter, length, bytes_eq}
use Rattle.std.specs.Prelude.{codes, if◌then◌else◌, Option, Some, None}
use Rattle.std.specs.List.{slice_split, join_with_byte, list_all}
use Rattle.modulename.specs.ModuleName.{is_module_name}
use Rattle.envvars.specs.Texts.{Text}
use Rattle.envvars.specs.Fields.{are_distinct, without_repeats, ampersand}

-- the variable of the names, in load order
abbrev pub names_variable : Text
names_variable = codes "LOADEDMODULES"

-- the variable of the paths of their modulefiles, in the same order
abbrev pub files_variable : Text
files_variable = codes "_LMFILES_"

-- the variable of what they conflict with
abbrev pub conflicts_variable : Text
conflicts_variable = codes "__MODULES_LMCONFLICT"

-- the variable of what they need
abbrev pub prereqs_variable : Text
prereqs_variable = codes "__MODULES_LMPREREQ"

-- the separator of the names of one group; a module and its words are separated by `&`
abbrev pub bar : ℕ
bar = 124

-- Writing: the element of a module and its words.
abbrev pub element_of : Text → List Text → Text
element_of name words = join_with_byte ampersand (name ∷ words)

-- the text of a group of names
abbrev pub group_text : List Text → Text
group_text names = join_with_byte bar names

-- whether the text has no byte
abbrev pub is_empty : Text → Bool
is_empty [] = true
is_empty (b ∷ bs) = false

-- The names and the paths are those of one list: there are as many, each name is well spelled and there once, and no
-- path is empty.
abbrev pub are_consistent : List Text → List Text → Bool
are_consistent names files =
    length names == length files && list_all is_module_name names && list_all (λ file. not (is_empty file)) files
    && are_distinct names

-- Reading: the parts of an element, which are a module and then its words.
abbrev pub parts_of : Text → List Text
parts_of element = slice_split (λ b. b == ampersand) element

-- the parts after the first
abbrev pub later_parts : List Text → List Text
later_parts [] = []
later_parts (part ∷ parts) = parts

-- Whether these are the parts of an element of the module. An element without `&` is one of no module.
abbrev pub is_element_of : Text → List Text → Bool
is_element_of name [] = false
is_element_of name (part ∷ []) = false
is_element_of name (part ∷ word ∷ words) = bytes_eq name part

-- the first element of a module; later ones don't count
abbrev pub first_element : Text → List Text → Option Text
first_element name [] = None
first_element name (element ∷ elements) =
    if is_element_of name (parts_of element) then Some element else first_element name elements

-- the words of an element, if there is one
abbrev pub words_in : Option Text → List Text
words_in None = []
words_in (Some element) = later_parts (parts_of element)

-- the words that are well spelled as names of modules; others are passed over
abbrev pub names_among : List Text → List Text
names_among words = filter is_module_name words

-- the names among the words that a module conflicts with, without repetitions
abbrev pub conflicts_among : List Text → List Text
conflicts_among words = without_repeats (names_among words)

-- the names of the group in a word
abbrev pub names_of_group : Text → List Text
names_of_group word = names_among (slice_split (λ b. b == bar) word)

-- whether there is a name
abbrev pub has_names : List Text → Bool
has_names [] = false
has_names (name ∷ names) = true

-- the groups in the words, of each of which a module needs one; a group without well-spelled names is passed over
abbrev pub prereqs_among : List Text → List (List Text)
prereqs_among words = filter has_names (map names_of_group words)
