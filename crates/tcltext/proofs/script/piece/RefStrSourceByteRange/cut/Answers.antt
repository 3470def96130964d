use Rattle.std.proofs.Common.{arith}
use Rattle.tcltext.proofs.script.Ranges.{between_piece}
use Rattle.tcltext.proofs.script.piece.RefStrSourceByteRange.cut.Goals as goal

pub returns-clause-text : goal.returns-clause-text
returns-clause-text c = between_piece c.args.self.now.now c.args.rest.now c.args.piece.now c.utf8.rest c.utf8.piece c.requires.suffix c.requires.prefix

pub returns-clause-offsets : goal.returns-clause-offsets
returns-clause-offsets c = λ start at. (omega (arith, at), omega (arith, at))
