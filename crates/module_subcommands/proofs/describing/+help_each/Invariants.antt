use Rattle.std.proofs.Common.{length}
use Rattle.module_subcommands.proofs.describing.+help_each.Given as goal

abbrev pub decreases-help_each : goal.decreases-help_each
decreases-help_each g l = length l.names.now
