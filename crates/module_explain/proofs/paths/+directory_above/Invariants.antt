use Rattle.std.proofs.Common.{length}
use Rattle.module_explain.proofs.paths.+directory_above.Given as goal

abbrev pub decreases-directory_above : goal.decreases-directory_above
decreases-directory_above l = length l.directories.now
