use Rattle.std.proofs.Common.{length}
use Rattle.module_reports.proofs.listings.texts.+stands_in_front.Given as goal

abbrev pub decreases-stands_in_front : goal.decreases-stands_in_front
decreases-stands_in_front l = length l.name.now
