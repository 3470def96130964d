-- The names in a folder below the directories of MODULEPATH (modulefile(5), on MODULEPATH). Only names are read: whether a
-- module has them isn't asked.
use Rattle.std.specs.Prelude.{◌≡◌, List, [], ◌∷◌, ◌++◌, Option, Some, None}
use Rattle.std.specs.declared.alloc.Global.{Global}
use Rattle.std.specs.declared.string.String.{String}
use Rattle.std.specs.declared.vec.Vec.{Vec}
use Rattle.envvars.specs.Texts.{Text, texts_in}
use Rattle.filetree.specs.Agreement.{Listings}
use Rattle.search.specs.BelowFolder.{folder_path}
use Rattle.search.specs.NamesBelow.{AreNamesBelow}

-- the names in a folder, or none where there is no folder
abbrev pub names_or_none : Option (Vec (String Global) Global) → List Text
names_or_none None = []
names_or_none (Some names) = texts_in names

-- What stands in the folder of this name below each of the directories, one directory after another; without a name, in
-- the directories themselves.
abbrev pub AreNamesAlong : Listings → Option Text → List Text → List Text → Type 0
AreNamesAlong listings folder [] names = names ≡ []
AreNamesAlong listings folder (dir ∷ dirs) names =
    (first : Option (Vec (String Global) Global)) × (rest : List Text) × AreNamesBelow listings dir folder first
    × AreNamesAlong listings folder dirs rest × (names ≡ names_or_none first ++ rest)

-- the path is that of the folder of this name below a directory
abbrev pub IsFolder : Option Text → Text → Type 0
IsFolder folder at = (dir : Text) × (at ≡ folder_path dir folder)
