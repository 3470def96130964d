use Rattle.std.proofs.Common.{◌≡◌, w64, to_z, of_z, FitsSigned, ap, sym, ◌∙◌, rules}
use Rattle.std.proofs.lemmas.Int.{to_z-of_z}
use Rattle.std.specs.Fmt.{signed_decimal}
use Rattle.tcltext.specs.chars.Numerals.{numeral}
use Rattle.tcltext.specs.declared.chars.number.Numeral.TheVariants.{Whole}
use Rattle.tclrules.specs.Variables.{value_at, with_value}
use Rattle.tclforms.specs.variables.Locations.{scalar_view}
use Rattle.tclcommands.specs.Increments.{increment_text}
use Rattle.tclcommands.proofs.Sums.{by_rule}
use Rattle.tclcommands.proofs.writing.increase_in_place.Goals as goal

pub returns-in-Some-clause-sum : goal.returns-in-Some-clause-sum
returns-in-Some-clause-sum c =
    let s = c.args.variables.now in
    let p = scalar_view c.args.variable in
    let fits : FitsSigned w64 c.in-Some.amount = search rules in
    let amount : numeral (increment_text c.args.increment) ≡ Whole (to_z w64 (of_z w64 c.in-Some.amount)) = c.in-Some.ensures ∙ ap Whole (sym (to_z-of_z w64 c.in-Some.amount fits)) in
    by_rule c.increase.result (value_at s p) (to_z w64 (of_z w64 c.in-Some.amount)) c.args.limit
    (increment_text c.args.increment) c.increase.new.self (λ total. with_value s p (signed_decimal total)) amount
    c.increase.ensures.sum
