-- Modules for worked examples (own).
use Rattle.std.specs.Prelude.{List, [], ◌∷◌, map, codes}
use Rattle.envvars.specs.Texts.{Text}
use Rattle.modulefile.specs.Records.{Prereq}
use Rattle.modulefile.specs.Moves.{Module}

-- a module that needs one of each of these groups
abbrev pub needing : Text → List (List Text) → Module
needing name groups = record { name = name; path = []; records = map Prereq groups }

-- three modules that need nothing
abbrev pub gcc : Module
gcc = needing (codes "gcc") []

abbrev pub gcc_9 : Module
gcc_9 = needing (codes "gcc/9") []

abbrev pub gcc_10 : Module
gcc_10 = needing (codes "gcc/10") []

-- a module that needs some version of gcc
abbrev pub mpi : Module
mpi = needing (codes "mpi/1") ((codes "gcc" ∷ []) ∷ [])
