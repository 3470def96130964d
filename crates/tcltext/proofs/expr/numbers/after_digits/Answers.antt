use Rattle.std.proofs.Common.{ap, sym, ◌∙◌}
use Rattle.tcltext.specs.expr.Operands.{after_digits}
use Rattle.tcltext.proofs.expr.MarkLemmas.{digits_more, digits_end}
use Rattle.tcltext.proofs.expr.numbers.after_digits.Goals as goal

pub loop-digits-preserved : goal.loop-digits-preserved
loop-digits-preserved c = (
  c.after_first-rest.utf8,
  c.loop-digits.invariant.1 ∙ digits_more c.args.digits c.loop-digits.rest.now
      (sym c.begins_digit.ensures ∙ c.loop-digits-test.true)
      ∙ ap (after_digits c.args.digits) (sym c.after_first-rest.ensures),
)

pub returns : goal.returns
returns c = sym (c.loop-digits.invariant.1 ∙ digits_end c.args.digits c.loop-digits.rest.now (sym c.begins_digit.ensures ∙ c.loop-digits-test.false))
