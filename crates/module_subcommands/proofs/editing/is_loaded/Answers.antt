use Rattle.std.proofs.Common.{refl}
use Rattle.module_subcommands.proofs.editing.is_loaded.Goals as goal

pub returns-clause-tests : goal.returns-clause-tests
returns-clause-tests c = (c.in_ok-output.output, c.in_ok-output.ensures, refl)
