use Rattle.std.proofs.Common.{sym, ◌∷◌, false}
use Rattle.tcltext.proofs.chars.BraceClose.{close_sound}
use Rattle.tcltext.proofs.script.reading.read_braced.Goals as goal

pub cut-requires-clause-prefix : goal.cut-requires-clause-prefix
cut-requires-clause-prefix g c = (125 ∷ c.in-Some.after.now, (close_sound c.args.text.now false 0 c.in-Some.inner.now c.in-Some.after.now (sym c.in-Some.ensures)).0)
