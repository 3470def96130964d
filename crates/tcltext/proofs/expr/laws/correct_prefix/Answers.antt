use Rattle.tcltext.specs.chars.Faults.{max_nesting}
use Rattle.tcltext.specs.declared.chars.fault.Fault.TheVariants.{BadExpression}
use Rattle.tcltext.proofs.expr.Fronts.{text_front}
use Rattle.tcltext.proofs.expr.laws.correct_prefix.Goals as goal

pub returns-clause-prefix : goal.returns-clause-prefix
returns-clause-prefix c = text_front

pub returns-clause-offset : goal.returns-clause-offset
returns-clause-offset c bs at h = (h.1, h.2, text_front max_nesting bs (BadExpression h.1) h.3)
