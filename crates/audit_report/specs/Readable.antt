-- What the report of an audit says of files and directories that can't be read (own).
use Rattle.std.specs.Prelude.{Bool, List, ◌++◌, bytes_eq, codes, string_bytes}
use Rattle.std.specs.List.{list_any}
use Rattle.std.specs.declared.alloc.Global.{Global}
use Rattle.std.specs.declared.string.String.{String}
use Rattle.envvars.specs.Texts.{Text}
use Rattle.audit_report.specs.Words.{spelled}

-- the line of a file or a directory that can't be read: it has no name
unfoldable pub unreadable : Text → Text
unreadable path = codes "\trefused\tReading failed\t" ++ (spelled path ++ codes "\n")

-- the same by the path as the code has it
abbrev pub unreadable_line : String Global → Text
unreadable_line path = unreadable (string_bytes path)

-- the path is one of these
abbrev pub is_unreadable : List (String Global) → Text → Bool
is_unreadable paths path = list_any (λ other. bytes_eq path (string_bytes other)) paths
