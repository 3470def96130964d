use Rattle.std.proofs.Common.{length}
use Rattle.module_reports.proofs.listings.chosen.+share_folder.Given as goal

abbrev pub decreases-share_folder : goal.decreases-share_folder
decreases-share_folder l = length l.left.now
