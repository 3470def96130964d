use Rattle.std.proofs.Common.{refl}
use Rattle.module_subcommands.proofs.editing.edit.Goals as goal

pub returns-clause-edits : goal.returns-clause-edits
returns-clause-edits c =
    (c.in_ok-judge_modulepath.ensures.text, (c.in_ok-output.output, rw (c.as_slice.ensures.value, c.in_ok-working.ensures) at c.in_ok-output.ensures, (refl, refl)))
