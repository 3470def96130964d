use Rattle.tcltext.specs.chars.Classes.{in_class}
use Rattle.tcltext.specs.script.Ends.{class_of}
use Rattle.tcltext.proofs.script.Escapes.{run_front}
use Rattle.tcltext.proofs.script.reading.read_literal.Goals as goal

pub cut-requires-clause-prefix : goal.cut-requires-clause-prefix
cut-requires-clause-prefix g c = run_front (in_class (class_of c.args.context)) c.args.text.now c.split_literal.result.0.now c.split_literal.ensures.run
