use Rattle.std.specs.Prelude.{codes}
use Rattle.module_restore.proofs.forgetting.PrefixLemmas.{stripped}
use Rattle.module_restore.proofs.forgetting.stacks.stacked_in.Goals as goal

pub returns : goal.returns
returns c = stripped (codes "__MODULES_PUSHENV_") _ _ c.strip_prefix.ensures.cases
