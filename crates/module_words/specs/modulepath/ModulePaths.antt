-- MODULEPATH as a list of directories, and what `use` and `unuse` make of it (module(1)).
use Rattle.std.specs.Prelude.{ℕ, List, [], ◌++◌, Bool, true, false, not, codes, bytes_eq, filter, length}
use Rattle.std.specs.Prelude.{nat_le, Option, Some, None}
use Rattle.std.specs.Option.{option_map_or}
use Rattle.envvars.specs.Texts.{Text, has}
use Rattle.envvars.specs.Fields.{elements_in, without_repeats}
use Rattle.envstate.specs.declared.paths.adding.End.{End}
use Rattle.envstate.specs.declared.paths.adding.End.TheVariants.{Front, Back}
use Rattle.process.specs.AbsolutePaths.{absolute_path}

-- the name of the variable
abbrev pub modulepath : Text
modulepath = codes "MODULEPATH"

-- the directories of the variable's text: its elements, but empty ones
abbrev pub directories_in : Option Text → List Text
directories_in text = filter (λ element. not (bytes_eq element [])) (elements_in text)

-- the element names one of these absolute paths, however it is spelled
abbrev pub names_one : Option Text → List Text → Text → Bool
names_one working paths element = option_map_or (λ path. has path paths) (absolute_path working element) false

-- the list without what names one of these paths
abbrev pub unused : Option Text → List Text → List Text → List Text
unused working paths list = filter (λ element. not (names_one working paths element)) list

-- the paths at that end of the others
abbrev pub at_end : End → List Text → List Text → List Text
at_end Front paths others = paths ++ others
at_end Back paths others = others ++ paths

-- the list with these paths, each once, at that end, and no more where they stood
abbrev pub used : Option Text → End → List Text → List Text → List Text
used working end paths list = at_end end (without_repeats paths) (unused working paths list)

-- how many bytes `use` makes MODULEPATH at most, since a shell can hand on no longer text
abbrev pub max_length : ℕ
max_length = 100000

-- a shell can hand on this text
abbrev pub is_short : Option Text → Bool
is_short None = true
is_short (Some text) = nat_le (length text) max_length
