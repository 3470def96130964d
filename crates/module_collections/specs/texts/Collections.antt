-- A collection as a whole: what its lines say, one after the other (module(1)).
use Rattle.std.specs.Prelude.{ℕ, ◌+◌, ◌==◌, List, [], ◌∷◌, Bool, ◌&&◌, nat_lt, length, if◌then◌else◌, Result, Ok, Err}
use Rattle.std.specs.List.{slice_split, list_any}
use Rattle.envvars.specs.Texts.{Text}
use Rattle.module_collections.specs.texts.Lines.{Kept, LineReason, onward, with_line}

-- what is wrong with the text of a collection: the line, from 1, or the whole
pub data CollectionReason : Type 0 where
  bad_line : (number : ℕ) → (reason : LineReason) → CollectionReason
  says_nothing : CollectionReason
  too_long : CollectionReason
  no_text : CollectionReason

-- how many bytes a collection has at most
abbrev pub max_length : ℕ
max_length = 65536

-- nothing
abbrev pub nothing : Kept
nothing = record { directories = []; modules = [] }

-- what a line adds, or that the line of this number is wrong
abbrev pub in_line : ℕ → Result Kept LineReason → Result Kept CollectionReason
in_line number (Err reason) = Err (bad_line number reason)
in_line number (Ok kept) = Ok kept

-- what these lines add, the first of which has this number
abbrev pub with_lines : List Text → ℕ → Kept → Result Kept CollectionReason
with_lines [] number kept = Ok kept
with_lines (line ∷ lines) number kept =
    onward (λ found. with_lines lines (number + 1) found) (in_line number (with_line kept line))

-- it names nothing
abbrev pub is_nothing : Kept → Bool
is_nothing kept = length kept.directories == 0 && length kept.modules == 0

-- what is kept, unless it is nothing
abbrev pub something : Result Kept CollectionReason → Result Kept CollectionReason
something (Err reason) = Err reason
something (Ok kept) = if is_nothing kept then Err says_nothing else Ok kept

-- what a text keeps, or what is wrong with it
abbrev pub read : Text → Result Kept CollectionReason
read text =
    if nat_lt max_length (length text) then Err too_long
    else if list_any (λ b. b == 0) text then Err no_text
    else something (with_lines (slice_split (λ b. b == 10) text) 1 nothing)
