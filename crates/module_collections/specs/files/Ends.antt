-- The end to which a path leads, where a file can be written (module(1), save).
use Rattle.std.specs.Prelude.{Bool, true, false, if◌then◌else◌, Option, Some, None, Result, Ok, Err}
use Rattle.envvars.specs.Texts.{Text}
use Rattle.module_collections.specs.files.Entries.{Entry, Entries, nothing, file, folder, link, other, end_of}
use Rattle.module_collections.specs.files.Faults.{FileReason, no_file}

-- A file can be there: one is, or nothing.
abbrev pub is_free : Entry → Bool
is_free nothing = true
is_free (file bytes) = true
is_free folder = false
is_free (link target) = false
is_free other = false

-- the end to which a path leads, if a file can be there
abbrev pub at_free : Text → Option Text → Entries → Result Text FileReason
at_free path None entries = Err (no_file path)
at_free path (Some end) entries = if is_free (entries end) then Ok end else Err (no_file path)

abbrev pub free_end : Entries → Text → Result Text FileReason
free_end entries path = at_free path (end_of entries path) entries
