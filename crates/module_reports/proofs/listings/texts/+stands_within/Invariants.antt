use Rattle.std.proofs.Common.{length}
use Rattle.module_reports.proofs.listings.texts.+stands_within.Given as goal

abbrev pub decreases-stands_within : goal.decreases-stands_within
decreases-stands_within l = length l.name.now
