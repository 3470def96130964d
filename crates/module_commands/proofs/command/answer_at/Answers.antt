use Rattle.module_commands.proofs.command.answer_at.Goals as goal

-- src/command.rt:28:1
pub returns-in-IsLoaded : goal.returns-in-IsLoaded
returns-in-IsLoaded g c =
    rw c.in-IsLoaded.is (rw c.as_slice-words.ensures.value at c.is_loaded.ensures.tests)
