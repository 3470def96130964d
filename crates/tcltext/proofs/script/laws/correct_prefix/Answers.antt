use Rattle.std.proofs.Common.{◌∷◌, subst, append_assoc}
use Rattle.tcltext.specs.chars.Faults.{max_nesting}
use Rattle.tcltext.specs.script.Grammar.{IsScript}
use Rattle.tcltext.proofs.script.ViablePrefixes.{joined, escape, offender_kept, escape_kept}
use Rattle.tcltext.proofs.script.Prefixes.{no_further}
use Rattle.tcltext.proofs.script.Viable.{before_mark, open_mark, open_index}
use Rattle.tcltext.proofs.script.BadEscapes.{bad_escape}
use Rattle.tcltext.proofs.script.laws.correct_prefix.Goals as goal

pub returns-clause-before_mark : goal.returns-clause-before_mark
returns-clause-before_mark c = before_mark max_nesting

pub returns-clause-with_joined : goal.returns-clause-with_joined
returns-clause-with_joined c = λ before bad rest h off k.
    no_further joined max_nesting before bad rest k.0 h (offender_kept bad rest k.0 off) k.1 (subst (λ ys. IsScript ys k.1) (append_assoc before bad k.0) k.2)

pub returns-clause-with_escape : goal.returns-clause-with_escape
returns-clause-with_escape c = λ before bad rest h off k.
    no_further escape max_nesting before (92 ∷ bad) rest k.0 h (escape_kept bad rest k.0 off) k.1 (subst (λ ys. IsScript ys k.1) (append_assoc before (92 ∷ bad) k.0) k.2)

pub returns-clause-escapes : goal.returns-clause-escapes
returns-clause-escapes c = bad_escape

pub returns-clause-open_marks : goal.returns-clause-open_marks
returns-clause-open_marks c = open_mark max_nesting

pub returns-clause-open_index : goal.returns-clause-open_index
returns-clause-open_index c = open_index max_nesting
