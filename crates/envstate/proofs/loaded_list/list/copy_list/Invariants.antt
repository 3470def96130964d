use Rattle.std.proofs.Common.{◌≡◌, map, take}
use Rattle.envstate.specs.loaded_list.LoadedEntries.{entry_view}
use Rattle.envstate.proofs.loaded_list.list.copy_list.Given as goal

abbrev pub invariant-loop-entry : goal.invariant-loop-entry
invariant-loop-entry l = map entry_view l.copies.items ≡ map entry_view (take l.entry-index l.list)
