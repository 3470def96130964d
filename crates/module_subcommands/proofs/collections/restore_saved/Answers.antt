use Rattle.std.proofs.Common.{string_bytes}
use Rattle.module_collections.specs.texts.Views.{kept_view}
use Rattle.module_subcommands.proofs.NarrowLemmas.{in_entries}
use Rattle.module_subcommands.proofs.collections.restore_saved.Goals as goal

pub returns-clause-restored : goal.returns-clause-restored
returns-clause-restored g c =
    let found = rw c.as_slice-words.ensures.value at c.in_ok-path.ensures.found in
    let kept = rw c.as_str-name.ensures.value at c.in_ok-kept.ensures.answer in
    let answered = rw c.in_ok-restored.ensures at c.restore.ensures.restored in
    let changes = rw c.in_ok-restored.ensures at c.restore.ensures.changes in (
      string_bytes c.in_ok-path.path,
      kept_view c.in_ok-kept.kept,
      (found.0, found.1, in_entries _ _ _ c.read_collection_file.ensures.narrows found.2),
      kept,
      (c.in_ok-restored.restored, answered, changes, c.in_ok-restored_reply.ensures),
    )
