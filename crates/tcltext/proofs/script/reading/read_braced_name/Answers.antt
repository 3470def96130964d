use Rattle.tcltext.specs.chars.Classes.{in_class}
use Rattle.tcltext.specs.declared.chars.runs.Class.TheVariants.{InBracedName}
use Rattle.tcltext.proofs.script.Escapes.{run_front}
use Rattle.tcltext.proofs.script.reading.read_braced_name.Goals as goal

pub cut-requires-clause-prefix : goal.cut-requires-clause-prefix
cut-requires-clause-prefix g c = run_front (in_class InBracedName) c.args.text.now c.split_run.result.0.now (c.split_run.ensures.run)
