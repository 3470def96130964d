use Rattle.std.proofs.Common.{sym, ap, ◌∙◌}
use Rattle.tcltext.specs.chars.Numerals.{whole_of}
use Rattle.tcltext.proofs.chars.NumberLemmas.{class-some, class-fraction, class-text, numeral-is}
use Rattle.tcltext.proofs.chars.number.any_number.Goals as goal

pub returns-then-is_minus : goal.returns-then-is_minus
returns-then-is_minus c =
    numeral-is c.args.text.now c.trim-signed.result.now c.without_sign-digits.result.now _ (c.trim-signed.ensures) c.without_sign-digits.ensures
    (c.negative.ensures ∙ ap (λ b. whole_of b c.in-Some.n) (sym c.if-is_minus.true ∙ c.is_minus.ensures) ∙ class-some _ c.without_sign-digits.result.now _ c.in-Some.n c.in-Some.ensures)

pub returns-else-is_minus : goal.returns-else-is_minus
returns-else-is_minus c =
    numeral-is c.args.text.now c.trim-signed.result.now c.without_sign-digits.result.now _ (c.trim-signed.ensures) c.without_sign-digits.ensures
    (c.positive.ensures ∙ ap (λ b. whole_of b c.in-Some.n) (sym c.if-is_minus.false ∙ c.is_minus.ensures) ∙ class-some _ c.without_sign-digits.result.now _ c.in-Some.n c.in-Some.ensures)

pub returns-then-is_fraction : goal.returns-then-is_fraction
returns-then-is_fraction c =
    numeral-is c.args.text.now c.trim-signed.result.now c.without_sign-digits.result.now _ (c.trim-signed.ensures) c.without_sign-digits.ensures
    (sym (class-fraction _ c.without_sign-digits.result.now _ c.in-None.ensures (sym c.is_fraction.ensures ∙ c.if-is_fraction.true)))

pub returns-else-is_fraction : goal.returns-else-is_fraction
returns-else-is_fraction c =
    numeral-is c.args.text.now c.trim-signed.result.now c.without_sign-digits.result.now _ (c.trim-signed.ensures) c.without_sign-digits.ensures
    (sym (class-text _ c.without_sign-digits.result.now _ c.in-None.ensures (sym c.is_fraction.ensures ∙ c.if-is_fraction.false)))
