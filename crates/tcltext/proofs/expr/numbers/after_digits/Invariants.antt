use Rattle.std.proofs.Common.{◌≡◌, length}
use denote.Text.{Utf8}
use denote.Shadow.{shadow}
use Rattle.tcltext.specs.expr.Operands.{after_digits}
use Rattle.tcltext.proofs.expr.numbers.after_digits.Given as goal

abbrev pub invariant-loop-digits : goal.invariant-loop-digits
invariant-loop-digits l = shadow (Utf8 l.rest) × (after_digits l.digits l.text ≡ after_digits l.digits l.rest)

abbrev pub decreases-loop-digits : goal.decreases-loop-digits
decreases-loop-digits l = length l.rest
