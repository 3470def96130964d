-- The loaded modules and the listing of the worked examples.
use Rattle.std.specs.Prelude.{true, false, List, [], ◌∷◌, codes}
use Rattle.envstate.specs.loaded_list.Loaded.{Entry}
use Rattle.search.specs.Listed.{ListingEntry}

-- without conflicts and prereqs
abbrev pub k1 : Entry
k1 = record { name = codes "k/1"; path = codes "/m/k/1"; conflicts = []; prereqs = [] }

-- in conflict with k
abbrev pub n1 : Entry
n1 = record { name = codes "n/1"; path = codes "/m/n/1"; conflicts = codes "k" ∷ []; prereqs = [] }

-- what mpi/1 needs
abbrev pub gcc9 : Entry
gcc9 = record { name = codes "gcc/9"; path = codes "/m/gcc/9"; conflicts = []; prereqs = [] }

-- needs gcc
abbrev pub mpi1 : Entry
mpi1 = record { name = codes "mpi/1"; path = codes "/m/mpi/1"; conflicts = []; prereqs = (codes "gcc" ∷ []) ∷ [] }

-- versions in their order, of which a default file names the first
abbrev pub versions : List ListingEntry
versions = (codes "ver/1.9", true) ∷ (codes "ver/1.10", false) ∷ (codes "ver/1.10-rc", false) ∷ []
