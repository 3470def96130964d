use Rattle.std.proofs.Common.{◌≡◌, ◌≤◌, Ok, length, w64, to_z, of_z, FitsSigned, ap, sym, ◌∙◌, arith, rules}
use Rattle.std.proofs.lemmas.Int.{to_z-of_z}
use Rattle.std.specs.Fmt.{signed_decimal}
use Rattle.tcltext.specs.declared.chars.number.Numeral.TheVariants.{Whole}
use Rattle.tclforms.proofs.variables.Places.{set_at_place, lookup_at_place}
use Rattle.tclforms.proofs.variables.table.increase.Goals as goal

pub returns-clause-sum : goal.returns-clause-sum
returns-clause-sum c =
    let entries = c.args.table.now.entries in
    let name = c.args.name.now in
    let place = c.in-Some.ensures.place in
    let held = lookup_at_place (λ t. t) entries name c.in-Some.index place _ c.index.ensures in
    let total = c.in-Some-sum_of.sum in
    let fits : FitsSigned w64 total = search rules in
    let written = c.in_ok-overwrite.ensures in
    let text : signed_decimal total ≡ c.format-text.result.now = sym (rw (to_z-of_z w64 total fits) at c.format-text.ensures.text) in
    let same = text ∙ sym written in
    let long : length c.overwrite.new.self ≤ c.args.limit = omega (arith, ap length written, c.if-text-limit.false) in
    let amount : Whole c.args.amount ≡ Whole (to_z w64 (of_z w64 c.args.amount)) = ap Whole (sym (to_z-of_z w64 c.args.amount c.ranges.amount)) in
    rw (to_z-of_z w64 total fits, same, ← held) (((λ n h. c.in-Some-sum_of.ensures n (h ∙ amount) ∙ ap Ok same), long), set_at_place (λ t. t) entries name c.in-Some.index place c.overwrite.new.self)
