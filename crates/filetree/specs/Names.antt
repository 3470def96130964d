-- The names of a directory in one text. For this crate's own contracts alone.
use Rattle.std.specs.Prelude.{◌≡◌, ℕ, Bool, false, not, ◌||◌, List, [], ◌∷◌, ◌++◌, filter, ◌==◌, codes}
use Rattle.std.specs.List.{All, list_any, slice_split}
use Rattle.std.specs.Str.{bytes_eq}
use Rattle.modulename.specs.ModuleName.{slash}
use Rattle.filetree.specs.Modulefiles.{is_empty}

-- the texts between the NULs that aren't empty
abbrev pub names_of : List ℕ → List (List ℕ)
names_of text = filter (λ name. not (is_empty name)) (slice_split (λ b. b == 0) text)

-- a name has a byte and no NUL
abbrev pub IsName : List ℕ → Type 0
IsName name = (is_empty name ≡ false) × All (λ b. (b == 0) ≡ false) name

-- the directory itself, or the one above it
abbrev pub is_dot_name : List ℕ → Bool
is_dot_name name = bytes_eq name (codes ".") || bytes_eq name (codes "..")

-- the entries of a directory, by the text of its names as the system gives it
abbrev pub entries_of : List ℕ → List (List ℕ)
entries_of text = filter (λ name. not (is_dot_name name)) (names_of text)

-- the text of some names, each ended by a NUL
abbrev pub text_of_names : List (List ℕ) → List ℕ
text_of_names [] = []
text_of_names (name ∷ names) = name ++ 0 ∷ text_of_names names

-- a name begins with a point, by which files are hidden
abbrev pub is_hidden : List ℕ → Bool
is_hidden [] = false
is_hidden (b ∷ bs) = b == 46

-- a text with a slash is no name
abbrev pub has_slash : List ℕ → Bool
has_slash text = list_any (λ b. b == slash) text

-- the text has this name
abbrev pub has_name : List ℕ → List ℕ → Bool
has_name text name = list_any (bytes_eq name) (names_of text)
