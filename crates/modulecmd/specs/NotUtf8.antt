-- What a check says of the variables that aren't UTF-8 (own).
use Rattle.std.specs.Prelude.{List, ◌++◌, codes}
use Rattle.std.specs.List.{flat_map}
use Rattle.envvars.specs.Texts.{Text}

-- the line of such a variable
abbrev pub line_of : Text → Text
line_of name = codes "# environment: " ++ (name ++ codes " isn't UTF-8\n")

-- a line for each
abbrev pub lines_of : List Text → Text
lines_of names = flat_map line_of names
