use Rattle.std.proofs.Common.{◌≡◌, ap, ◌∙◌, sym, arith, pos, to_z, w64}
use Rattle.std.proofs.lemmas.Int.{ints}
use Rattle.tcltext.specs.declared.chars.number.Numeral.TheVariants.{Whole}
use Rattle.tcltext.proofs.chars.WholeNumbers.{plain_read}
use Rattle.tcltext.proofs.chars.number.short_decimal.Goals as goal

pub returns-in_ok-few_digits-in-len1-up : goal.returns-in_ok-few_digits-in-len1-up
returns-in_ok-few_digits-in-len1-up c =
    let n = c.in_ok-few_digits-in-len1-up.field-0 in
    let h = c.in_ok-few_digits-in-len1-up.ensures in
    let fits : to_z w64 n ≡ pos n = omega (arith, ints, h.0) in
    plain_read c.args.text.now n (omega arith) (λ e. grind arith) h.1 h.0 ∙ ap Whole (sym fits)
