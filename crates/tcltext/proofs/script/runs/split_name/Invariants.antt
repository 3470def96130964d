use Rattle.tcltext.proofs.script.Scans.{Scanned}
use Rattle.tcltext.proofs.script.runs.split_name.Given as goal

abbrev pub invariant-loop-n : goal.invariant-loop-n
invariant-loop-n l = Scanned l.bytes l.after_colon l.n
