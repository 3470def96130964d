use Rattle.std.proofs.Common.{map, ap, ◌∙◌, not}
use Rattle.envvars.specs.Texts.{has}
use Rattle.envstate.specs.loaded_list.Loaded.{names_of}
use Rattle.envstate.specs.loaded_list.LoadedEntries.{entry_view}
use Rattle.envstate.proofs.loaded_list.LoadedWriting.{and_then}
use Rattle.envstate.proofs.loaded_list.writing.can_be_added.Goals as goal

pub returns-then-is_entry : goal.returns-then-is_entry
returns-then-is_entry c =
    and_then c.is_entry.result _ _ _ c.is_entry.ensures c.if-is_entry.true
    (ap not (c.is_loaded.ensures ∙ ap (λ n. has n (names_of (map entry_view c.args.list.now))) c.as_str.ensures.value))
