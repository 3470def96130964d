-- The environment that a process is given (environ(7)): a block of entries NAME=VALUE, each ended by NUL.
use Rattle.std.specs.Prelude.{ℕ, Bool, List, [], ◌∷◌, ◌&&◌, ◌==◌, nat_lt, length, if◌then◌else◌, Option, Some, None}
use Rattle.std.specs.List.{position_or_len, before_first, after_first, slice_split}
use Rattle.std.specs.Str.{is_utf8}
use Rattle.std.specs.FinMap as finite
use Rattle.envvars.specs.Texts.{Text}
use Rattle.envvars.specs.Environment.{Environment, with_value}

-- the equals sign
abbrev pub is_equals : ℕ → Bool
is_equals b = b == 61

-- the name of an entry: its bytes before the first '='
abbrev pub name_of : Text → Text
name_of entry = before_first is_equals entry

-- The entry has an '=', and before it a name that isn't empty and is UTF-8.
abbrev pub is_variable : Text → Bool
is_variable entry =
    nat_lt (position_or_len is_equals entry) (length entry)
    && (nat_lt 0 (length (name_of entry)) && is_utf8 (name_of entry))

-- the value as a text; none, so that the variable is unset, where it isn't UTF-8
abbrev pub utf8_value : Text → Option Text
utf8_value value = if is_utf8 value then Some value else None

-- the environment with the variable of an entry set or unset; unchanged where the entry has no such name
abbrev pub with_entry : Text → Environment → Environment
with_entry entry e =
    if is_variable entry then with_value e (name_of entry) (utf8_value (after_first is_equals entry)) else e

-- the environment with the variables of all entries; of several for one name the first counts
abbrev pub with_entries : List Text → Environment → Environment
with_entries [] e = e
with_entries (entry ∷ entries) e = with_entry entry (with_entries entries e)

-- the entries of a block: its parts between NULs
abbrev pub entries_of : Text → List Text
entries_of block = slice_split (λ b. b == 0) block

-- the environment of a block
abbrev pub environment_of : Text → Environment
environment_of block = with_entries (entries_of block) finite.empty
