use Rattle.tcltext.proofs.script.Ends.{end_mark, end_through}
use Rattle.tcltext.proofs.script.reading.scalar_variable.Goals as goal

pub taken-requires-clause-rest : goal.taken-requires-clause-rest
taken-requires-clause-rest g c = end_mark c.args.text.now 36 c.args.following.now c.requires.dollar

pub cut-requires-clause-suffix : goal.cut-requires-clause-suffix
cut-requires-clause-suffix g c = end_through (g.S.Source.text c.args.source.now) c.args.text.now c.args.following.now
    c.requires.text (end_mark c.args.text.now 36 c.args.following.now c.requires.dollar)
