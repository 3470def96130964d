-- The kinds of names that shells ask for (own).
use Rattle.std.specs.Prelude.{Bool, true, false, codes, bytes_eq, if◌then◌else◌, Option, Some, None}
use Rattle.message.specs.Messages.{Text}
use Rattle.module_reports.specs.declared.completions.kind.NameKind.{NameKind}
use Rattle.module_reports.specs.declared.completions.kind.NameKind.TheVariants as kinds

-- these are the modules that can be loaded
abbrev pub is_available : NameKind → Bool
is_available kinds.Available = true
is_available other = false

-- the kind of this name, if there is one
abbrev pub kind_named : Text → Option NameKind
kind_named word =
    if bytes_eq word (codes "subcommands") then Some kinds.Subcommands
    else if bytes_eq word (codes "shells") then Some kinds.Shells
    else if bytes_eq word (codes "audit-options") then Some kinds.AuditOptions
    else if bytes_eq word (codes "port-options") then Some kinds.PortOptions
    else if bytes_eq word (codes "loaded") then Some kinds.Loaded
    else if bytes_eq word (codes "collections") then Some kinds.Collections
    else if bytes_eq word (codes "directories") then Some kinds.Directories
    else if bytes_eq word (codes "avail") then Some kinds.Available
    else None
