-- Members of families as the definitions have them.
use Rattle.std.specs.Prelude.{List, Bool, ◌&&◌, bytes_eq, string_bytes}
use Rattle.std.specs.List.{list_any}
use Rattle.tcltext.specs.chars.Runs.{Text}
use Rattle.port_rewriting.specs.declared.names.Member.{Member}

-- a module is in a family
abbrev pub is_in_family : List Member → Text → Text → Bool
is_in_family members family own =
    list_any (λ (m : Member). bytes_eq (string_bytes m.own) own && bytes_eq (string_bytes m.family) family) members
