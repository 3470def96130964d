use Rattle.module_subcommands.proofs.collections.reload_modules.Goals as goal

pub returns-clause-reloaded : goal.returns-clause-reloaded
returns-clause-reloaded g c =
    let answered = rw c.in_ok-restored.ensures at c.reload.ensures.restored in
    let changes = rw c.in_ok-restored.ensures at c.reload.ensures.changes in
    (rw c.as_slice-words.ensures.value at c.in_ok-refuse_words.ensures, (c.in_ok-restored.restored, answered, changes, c.in_ok-restored_reply.ensures))
