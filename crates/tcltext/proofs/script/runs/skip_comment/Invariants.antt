use Rattle.tcltext.proofs.script.Skips.{Commented}
use Rattle.tcltext.proofs.script.runs.skip_comment.Given as goal

abbrev pub invariant-loop-n : goal.invariant-loop-n
invariant-loop-n l = Commented l.bytes l.escaped l.n
