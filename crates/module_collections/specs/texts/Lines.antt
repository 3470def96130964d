-- A line of a collection: `module use` or `module load` with words, or nothing (module(1)).
use Rattle.std.specs.Prelude.{ℕ, List, [], ◌∷◌, ◌++◌, Bool, true, false, not, ◌&&◌, ◌||◌, ◌==◌, codes, bytes_eq, nat_eq}
use Rattle.std.specs.Prelude.{length, drop, if◌then◌else◌, Option, Some, None, Result, Ok, Err}
use Rattle.std.specs.List.{starts_with, list_any, position_or_len}
use Rattle.envvars.specs.Texts.{Text}
use Rattle.envstate.specs.paths.Paths.{put_at}
use Rattle.envstate.specs.declared.paths.adding.End.{End}
use Rattle.envstate.specs.declared.paths.adding.End.TheVariants.{Front, Back}
use Rattle.module_collections.specs.texts.Words.{Word, is_blank, words_of}
use Rattle.module_collections.specs.declared.texts.words.WordFault.{WordFault}

-- what a collection keeps: directories that are searched, and modules that are loaded
pub record Kept : Type 0 where
  pub directories : List Text
  pub modules : List Text

-- what is wrong with a line
pub data LineReason : Type 0 where
  neither : LineReason
  bad_words : (fault : WordFault) → LineReason
  no_directory : (word : Text) → LineReason
  no_module : (word : Text) → LineReason

-- no blank
abbrev pub is_unblank : ℕ → Bool
is_unblank b = not (is_blank b)

-- the text without the blanks that it begins with
abbrev pub unblanked : Text → Text
unblanked text = drop (position_or_len is_unblank text) text

-- the test of the first byte, if there is one
abbrev pub begins : (ℕ → Bool) → Text → Bool
begins test [] = false
begins test (b ∷ bs) = test b

-- the line says nothing: it is empty, or a comment
abbrev pub says_nothing : Text → Bool
says_nothing [] = true
says_nothing (b ∷ bs) = b == 35

-- what is behind this word and the blanks after it, where the text begins so
abbrev pub behind : Text → Text → Option Text
behind word text =
    if starts_with nat_eq text word && begins is_blank (drop (length word) text)
    then Some (unblanked (drop (length word) text)) else None

-- an option that says that directories go behind those that are there
abbrev pub is_append : Text → Bool
is_append text = bytes_eq text (codes "-a") || bytes_eq text (codes "-append") || bytes_eq text (codes "--append")

-- an option that says that they go in front
abbrev pub is_prepend : Text → Bool
is_prepend text = bytes_eq text (codes "-p") || bytes_eq text (codes "-prepend") || bytes_eq text (codes "--prepend")

-- the end that an option of `module use` names; a word with quotes is none
abbrev pub end_named : Word → Option End
end_named word =
    if not word.is_bare then None
    else if is_append word.text then Some Back
    else if is_prepend word.text then Some Front
    else None

-- an absolute directory without a colon
abbrev pub is_directory : Text → Bool
is_directory text = starts_with nat_eq text (codes "/") && not (list_any (λ b. b == 58) text)

-- white space of a name: a blank or a newline
abbrev pub is_gap : ℕ → Bool
is_gap b = is_blank b || b == 10

-- a name of a module: not empty, with no hyphen first and no white space in it
abbrev pub is_module : Text → Bool
is_module text =
    not (bytes_eq text []) && not (starts_with nat_eq text (codes "-")) && not (list_any is_gap text)

-- the mark that Environment Modules puts before a module that another one has brought
abbrev pub is_mark : Word → Bool
is_mark word = word.is_bare && bytes_eq word.text (codes "--notuasked")

-- one more directory at an end; one that is there already stays where it is
abbrev pub with_directory : Kept → End → Text → Kept
with_directory kept end path =
    if list_any (λ other. bytes_eq other path) kept.directories then kept
    else record kept { directories = put_at kept.directories path end }

abbrev pub with_module : Kept → Text → Kept
with_module kept name = record kept { modules = kept.modules ++ name ∷ [] }

-- the next step, if this one gave something
abbrev pub onward : {S R : Type 0} → (S → Result Kept R) → Result S R → Result Kept R
onward more (Err reason) = Err reason
onward more (Ok found) = more found

-- what a word of `module use` adds, and the end for those behind it; an option names another end
abbrev pub used_at : Option End → Text → End → Kept → Result (End × Kept) LineReason
used_at (Some other) text end kept = Ok (other, kept)
used_at None text end kept =
    if is_directory text then Ok (end, with_directory kept end text) else Err (no_directory text)

abbrev pub with_used : List Word → End → Kept → Result Kept LineReason
with_used [] end kept = Ok kept
with_used (word ∷ words) end kept =
    onward (λ found. with_used words found.0 found.1) (used_at (end_named word) word.text end kept)

-- what a word of `module load` adds
abbrev pub loaded_at : Word → Kept → Result Kept LineReason
loaded_at word kept =
    if is_mark word then Ok kept
    else if is_module word.text then Ok (with_module kept word.text) else Err (no_module word.text)

abbrev pub with_loaded : List Word → Kept → Result Kept LineReason
with_loaded [] kept = Ok kept
with_loaded (word ∷ words) kept = onward (λ found. with_loaded words found) (loaded_at word kept)

-- words, or what is wrong with them
abbrev pub on_words : (List Word → Result Kept LineReason) → Result (List Word) WordFault → Result Kept LineReason
on_words more (Err fault) = Err (bad_words fault)
on_words more (Ok words) = more words

-- what a command adds, by what is behind `use` and behind `load`
abbrev pub with_command : Kept → Option Text → Option Text → Result Kept LineReason
with_command kept (Some text) loaded = on_words (λ words. with_used words Back kept) (words_of text)
with_command kept None (Some text) = on_words (λ words. with_loaded words kept) (words_of text)
with_command kept None None = Err neither

-- what a line adds that says something
abbrev pub with_module_command : Kept → Option Text → Result Kept LineReason
with_module_command kept None = Err neither
with_module_command kept (Some text) = with_command kept (behind (codes "use") text) (behind (codes "load") text)

-- what a line adds
abbrev pub with_line : Kept → Text → Result Kept LineReason
with_line kept line =
    if says_nothing (unblanked line) then Ok kept
    else with_module_command kept (behind (codes "module") (unblanked line))
