use Rattle.std.proofs.Common.{length}
use Rattle.module_words.proofs.protocol.kind.+asks_for_lines.Given as goal

abbrev pub decreases-asks_for_lines : goal.decreases-asks_for_lines
decreases-asks_for_lines l = length l.words.now
