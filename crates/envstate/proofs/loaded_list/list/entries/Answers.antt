use Rattle.std.proofs.Common.{map}
use Rattle.std.proofs.lemmas.Slice.Zip.{either_empty_from_Zip}
use Rattle.std.specs.Iterator.Adapters.{zip_first, zip_second}
use Rattle.std.specs.Slice.Iter.{iter_rest}
use Rattle.envstate.specs.loaded_list.LoadedEntries.{element_in, entry_view}
use Rattle.envstate.proofs.loaded_list.LoadedReading.{entries_done}
use Rattle.envstate.proofs.loaded_list.list.entries.Goals as goal

pub returns : goal.returns
returns c =
    let it = c.loop-name.name-iterator in
    entries_done (element_in c.args.conflicts.now) (element_in c.args.prereqs.now) (map entry_view c.loop-name.entries.items) _
    (iter_rest (zip_first it)) (iter_rest (zip_second it)) (either_empty_from_Zip it c.next.new.self c.next.result c.in-None.is c.next.ensures.steps) c.loop-name.invariant
