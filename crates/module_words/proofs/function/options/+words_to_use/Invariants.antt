use Rattle.std.proofs.Common.{length}
use Rattle.module_words.proofs.function.options.+words_to_use.Given as goal

abbrev pub decreases-words_to_use : goal.decreases-words_to_use
decreases-words_to_use l = length l.words.now
