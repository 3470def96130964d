-- For the contracts of the set of a walk's directories (own).
use Rattle.std.specs.Prelude.{List, [], ◌∷◌, bytes_eq}
use Rattle.indexmap.specs.IndexSet.{insert_key}
use Rattle.envvars.specs.Texts.{Text}

-- the directories with these after them, each once, in the order of first occurrences
abbrev pub with_directories : List Text → List Text → List Text
with_directories dirs [] = dirs
with_directories dirs (dir ∷ more) = with_directories (insert_key bytes_eq dirs dir) more
