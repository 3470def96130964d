use Rattle.std.proofs.Common.{◌≡◌, map, take, string_bytes}
use Rattle.std.specs.Option.{option_map}
use Rattle.envstate.specs.loaded_list.Loaded.{prereqs_text}
use Rattle.envstate.specs.loaded_list.LoadedEntries.{entry_view}
use Rattle.envstate.proofs.loaded_list.writing.prereqs_text.Given as goal

abbrev pub invariant-loop-entry : goal.invariant-loop-entry
invariant-loop-entry l = option_map string_bytes l.text ≡ prereqs_text (map entry_view (take l.entry-index l.list))
