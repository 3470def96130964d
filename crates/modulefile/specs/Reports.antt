-- The reports of `show` and `whatis` (module(1); the layout is own): the records of a file, each as a command whose
-- words are written as a list of Tcl, and its descriptions.
use Rattle.std.specs.Prelude.{ℕ, ◌==◌, List, [], ◌∷◌, ◌++◌, codes, flat_map, if◌then◌else◌, Some, None}
use Rattle.std.specs.List.{join_with_byte}
use Rattle.tcltext.specs.list.Lists.{list_text}
use Rattle.envvars.specs.Texts.{Text}
use Rattle.envvars.specs.Fields.{colon}
use Rattle.modulefile.specs.Records.{Record, Set, Unset, Push, Path, Conflict, Prereq, Whatis}
use Rattle.modulefile.specs.Records.{whatis_texts}
use Rattle.modulefile.specs.declared.records.PathEdit.{PathEdit}
use Rattle.modulefile.specs.declared.records.PathEdit.TheVariants.{Front, Back, Remove}

-- the name of a path command
abbrev pub path_command : PathEdit → Text
path_command Front = codes "prepend-path"
path_command Back = codes "append-path"
path_command Remove = codes "remove-path"

-- a path command: the option where the delimiter isn't the colon, and the elements as one value
abbrev pub path_words : Text → ℕ → Text → List Text → List Text
path_words name delim var xs =
    name ∷ (if delim == colon then [] else codes "--delim" ∷ (delim ∷ []) ∷ []) ++ var ∷ join_with_byte delim xs ∷ []

-- the words of a record
abbrev pub shown_words : Record → List Text
shown_words (Set var value) = codes "setenv" ∷ var ∷ value ∷ []
shown_words (Unset var None) = codes "unsetenv" ∷ var ∷ []
shown_words (Unset var (Some value)) = codes "unsetenv" ∷ var ∷ value ∷ []
shown_words (Push var value) = codes "pushenv" ∷ var ∷ value ∷ []
shown_words (Path edit delim var xs) = path_words (path_command edit) delim var xs
shown_words (Conflict names) = codes "conflict" ∷ names
shown_words (Prereq names) = codes "prereq" ∷ names
shown_words (Whatis text) = codes "module-whatis" ∷ text ∷ []

-- a line, with its newline
abbrev pub line_of : Text → Text
line_of text = text ++ 10 ∷ []

-- the report of a file: the line of its path, and one for each record
abbrev pub show_text : Text → List Record → Text
show_text path rs = line_of (path ++ codes ":") ++ flat_map (λ r. line_of (list_text (shown_words r))) rs

-- a line for each description, after the module's name
abbrev pub whatis_text : Text → List Record → Text
whatis_text name rs = flat_map (λ text. line_of (name ++ codes ": " ++ text)) (whatis_texts rs)
