-- What is said of modules that were forgotten (module(1), forget).
use Rattle.std.specs.Prelude.{List, ◌∷◌, ◌++◌, codes}
use Rattle.std.specs.List.{flat_map}
use Rattle.envvars.specs.Texts.{Text}

-- a name behind a blank
abbrev pub behind_blank : Text → Text
behind_blank name = 32 ∷ name

-- the line that names them: which settings stay nothing tells any more
abbrev pub forgotten_line : List Text → Text
forgotten_line names =
    codes "Forgotten:" ++ (flat_map behind_blank names
    ++ codes ". What modulefiles set may stay; a new login is clean.\n")

-- the line that says how modules whose files are gone are forgotten
abbrev pub way_out_line : List Text → Text
way_out_line names = codes "Try: module forget" ++ (flat_map behind_blank names ++ codes "\n")
