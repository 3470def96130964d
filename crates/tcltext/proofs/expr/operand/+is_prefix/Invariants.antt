use Rattle.std.proofs.Common.{length}
use Rattle.tcltext.proofs.expr.operand.+is_prefix.Given as goal

abbrev pub decreases-is_prefix : goal.decreases-is_prefix
decreases-is_prefix l = length l.word.now
