use Rattle.std.proofs.Common.{length}
use Rattle.module_reports.proofs.listings.finding.+is_one_found.Given as goal

abbrev pub decreases-is_one_found : goal.decreases-is_one_found
decreases-is_one_found g l = length l.names.now
