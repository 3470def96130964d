-- Loaded lists and their texts, computed.
use Rattle.std.proofs.Common.{◌≡◌, [], ◌∷◌, refl, Some, None}
use Rattle.std.specs.Prelude.{codes}
use Rattle.envstate.specs.loaded_list.Loaded.{Entry, entries_in, names_text, files_text, conflicts_text, prereqs_text}

gcc : Entry
gcc = record { name = codes "gcc/9"; path = codes "/m/gcc/9"; conflicts = []; prereqs = [] }

mpi : Entry
mpi = record { name = codes "mpi/1"; path = codes "/m/mpi/1"; conflicts = []; prereqs = (codes "gcc" ∷ []) ∷ [] }

written_prereqs : prereqs_text (gcc ∷ mpi ∷ []) ≡ Some (codes "mpi/1&gcc")
unfolding gcc mpi
written_prereqs = refl

written_names : names_text (gcc ∷ mpi ∷ []) ≡ Some (codes "gcc/9:mpi/1")
unfolding gcc mpi
written_names = refl

read_again : entries_in (names_text (gcc ∷ mpi ∷ [])) (files_text (gcc ∷ mpi ∷ [])) (conflicts_text (gcc ∷ mpi ∷ [])) (prereqs_text (gcc ∷ mpi ∷ [])) ≡ Some (gcc ∷ mpi ∷ [])
unfolding gcc mpi
read_again = refl

empty_name : entries_in (Some (codes "a/1::b/1")) (Some (codes "/1:/2:/3")) None None ≡ None
empty_name = refl

repeated_name : entries_in (Some (codes "a/1:a/1")) (Some (codes "/1:/2")) None None ≡ None
repeated_name = refl

passed_over : entries_in (Some (codes "a/1")) (Some (codes "/1")) (Some (codes "z&q:a/1&b&@&&c/2&b:a/1&d")) (Some (codes "a/1&b|@|c&@&d"))
    ≡ Some (record { name = codes "a/1"; path = codes "/1"; conflicts = codes "b" ∷ codes "c/2" ∷ []; prereqs = (codes "b" ∷ codes "c" ∷ []) ∷ (codes "d" ∷ []) ∷ [] } ∷ [])
passed_over = refl

later_never : entries_in (Some (codes "a/1")) (Some (codes "/1")) (Some (codes "a/1&c:a/1&d")) (Some (codes "a/1&c:a/1&d"))
    ≡ Some (record { name = codes "a/1"; path = codes "/1"; conflicts = codes "c" ∷ []; prereqs = (codes "c" ∷ []) ∷ [] } ∷ [])
later_never = refl

names_nothing : entries_in (Some (codes "a/1")) (Some (codes "/1")) (Some (codes "a/1:a/1&d")) (Some (codes "a/1:a/1&d"))
    ≡ Some (record { name = codes "a/1"; path = codes "/1"; conflicts = codes "d" ∷ []; prereqs = (codes "d" ∷ []) ∷ [] } ∷ [])
names_nothing = refl
