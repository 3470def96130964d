use Rattle.std.proofs.Common.{◌≡◌, ◌++◌, map}
use Rattle.std.specs.Iterator.Adapters.{zip_first, zip_second}
use Rattle.std.specs.Slice.Iter.{iter_rest}
use Rattle.envvars.specs.Texts.{slice_texts}
use Rattle.envstate.specs.loaded_list.LoadedEntries.{element_in, entry_view}
use Rattle.envstate.specs.loaded_list.Loaded.{entries_from}
use Rattle.envstate.proofs.loaded_list.list.entries.Given as goal

-- the entries so far, and then those of the rest
abbrev pub invariant-loop-name : goal.invariant-loop-name
invariant-loop-name l =
    map entry_view l.entries.items ++ entries_from (element_in l.conflicts) (element_in l.prereqs)
    (slice_texts (iter_rest (zip_first l.name-iterator))) (slice_texts (iter_rest (zip_second l.name-iterator)))
    ≡ entries_from (element_in l.conflicts) (element_in l.prereqs) (slice_texts l.names) (slice_texts l.files)
