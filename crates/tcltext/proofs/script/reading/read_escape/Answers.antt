use Rattle.tcltext.proofs.script.Ends.{end_mark}
use Rattle.tcltext.proofs.script.reading.read_escape.Goals as goal

pub taken-requires-clause-rest : goal.taken-requires-clause-rest
taken-requires-clause-rest g c = end_mark c.args.text.now 92 c.args.following.now c.requires.mark
