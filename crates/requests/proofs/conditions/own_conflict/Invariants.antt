use Rattle.std.proofs.Common.{◌≡◌, drop, map}
use Rattle.envvars.specs.Texts.{slice_texts}
use Rattle.envstate.specs.loaded_list.LoadedEntries.{entry_view}
use Rattle.requests.specs.Conditions.{own_conflict}
use Rattle.requests.proofs.conditions.own_conflict.Given as goal

abbrev pub invariant-loop-name : goal.invariant-loop-name
invariant-loop-name l =
    own_conflict (slice_texts l.names) (map entry_view l.entries) ≡ own_conflict (slice_texts (drop l.name-index l.names)) (map entry_view l.entries)
