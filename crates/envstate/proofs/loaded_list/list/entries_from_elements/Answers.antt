use Rattle.std.proofs.Common.{◌≡◌, map, subst}
use Rattle.std.specs.Prelude.{IfOk}
use Rattle.envvars.specs.Texts.{slice_texts}
use Rattle.envstate.specs.loaded_list.LoadedEntries.{entry_view}
use Rattle.envstate.proofs.loaded_list.LoadedReading.{same_entries}
use Rattle.envstate.proofs.loaded_list.list.entries_from_elements.Goals as goal

pub returns : goal.returns
returns c =
    subst (λ l. IfOk c.entries.result (λ v. map entry_view v.items ≡ l))
    (same_entries _ _ _ _ (slice_texts c.args.names.now) (slice_texts c.args.files.now) c.in_ok-conflicts.ensures c.in_ok-prereqs.ensures)
    c.entries.ensures
