use Rattle.std.proofs.Common.{length}
use Rattle.module_words.proofs.subcommands.nearness.+differ_by_one.Given as goal

abbrev pub decreases-differ_by_one : goal.decreases-differ_by_one
decreases-differ_by_one l = length l.word.now
