use Rattle.std.proofs.Common.{length}
use Rattle.port_rewriting.proofs.records.+all_leave.Given as goal

abbrev pub decreases-all_leave : goal.decreases-all_leave
decreases-all_leave l = length l.commands.now
