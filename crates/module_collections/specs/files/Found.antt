-- What the file of a collection has (module(1), restore and saveshow).
use Rattle.std.specs.Prelude.{◌+◌, nat_lt, length, take, if◌then◌else◌, Option, Some, None, Result, Ok, Err}
use Rattle.std.specs.Str.{is_utf8}
use Rattle.envvars.specs.Texts.{Text}
use Rattle.module_collections.specs.texts.Lines.{Kept}
use Rattle.module_collections.specs.texts.Collections.{CollectionReason, max_length, read, too_long, no_text}
use Rattle.module_collections.specs.files.Entries.{Entries, bytes_at, end_of, is_file}
use Rattle.module_collections.specs.files.Faults.{FileReason, no_file, no_collection}

-- a path, if a file is at this one, to which it leads
abbrev pub at_file : Text → Option Text → Entries → Result Text FileReason
at_file path None entries = Err (no_file path)
at_file path (Some end) entries = if is_file (entries end) then Ok end else Err (no_file path)

-- the path of the file to which a path leads
abbrev pub file_end : Entries → Text → Result Text FileReason
file_end entries path = at_file path (end_of entries path) entries

-- the first bytes of a file: one more than a collection may have
abbrev pub first : Text → Text
first bytes = take (max_length + 1) bytes

-- the bytes of a file at a path, if a collection may have so many
abbrev pub short : Text → Option Text → Result Text FileReason
short path None = Err (no_file path)
short path (Some bytes) = if nat_lt max_length (length bytes) then Err (no_collection path too_long) else Ok bytes

-- the bytes of the file that a path leads to
abbrev pub shown_at : Entries → Text → Result Text FileReason
shown_at entries path = short path (bytes_at entries path)

-- what the file's path is said with where its text keeps nothing
abbrev pub said_of : Text → Result Kept CollectionReason → Result Kept FileReason
said_of path (Err reason) = Err (no_collection path reason)
said_of path (Ok kept) = Ok kept

-- what bytes keep
abbrev pub kept_in : Text → Result Text FileReason → Result Kept FileReason
kept_in path (Err reason) = Err reason
kept_in path (Ok bytes) = if is_utf8 bytes then said_of path (read bytes) else Err (no_collection path no_text)

-- what the file that a path leads to keeps
abbrev pub kept_at : Entries → Text → Result Kept FileReason
kept_at entries path = kept_in path (shown_at entries path)
