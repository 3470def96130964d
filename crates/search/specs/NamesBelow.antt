-- The names of what stands in a folder below a directory of MODULEPATH, whatever it is: files aren't looked into (own).
use Rattle.std.specs.Prelude.{◌≡◌, List, [], map, Option, Some, None, string_bytes}
use Rattle.std.specs.List.Sorted.{IsPermutation, IsSortedBy}
use Rattle.std.specs.Ordering.{is_lt}
use Rattle.std.specs.declared.alloc.Global.{Global}
use Rattle.std.specs.declared.string.String.{String}
use Rattle.std.specs.declared.vec.Vec.{Vec}
use Rattle.modulename.specs.ModuleName.{Text}
use Rattle.modulename.specs.Versions.{version_order}
use Rattle.filetree.specs.Agreement.{Listings}
use Rattle.search.specs.BelowFolder.{folder_path, names_in}

-- The well-spelled full names of the entries of the folder, in version order; or none, where there is no folder.
abbrev pub AreNamesBelow : Listings → Text → Option Text → Option (Vec (String Global) Global) → Type 0
AreNamesBelow listings dir prefix None = listings (folder_path dir prefix) ≡ None
AreNamesBelow listings dir prefix (Some names) =
    (entries : List Text) × (listings (folder_path dir prefix) ≡ Some entries)
    × IsPermutation (names_in [] prefix entries) (map string_bytes names.items)
    × IsSortedBy (λ n m. is_lt (version_order (string_bytes n) (string_bytes m))) names.items
