use Rattle.std.proofs.Common.{◌≡◌, ◌^◌, ◌*ℤ◌, ◌∙◌, pos, w64, ℤ, ap, sym, subst}
use Rattle.std.specs.Option.{ok_or}
use Rattle.std.proofs.lemmas.Int.{to_z-of_z}
use Rattle.message.specs.Answers.{Gives}
use Rattle.tclvalue.specs.operators.Faults.{reason_of}
use Rattle.tclvalue.specs.operators.Numbers.{within_64_bits}
use Rattle.tclvalue.specs.declared.operators.fault.ValueFault.TheVariants.{NumberTooLarge}
use Rattle.tclvalue.proofs.operators.NumberLemmas.{checked, one_shifted, doubled_outside}
use Rattle.tclvalue.proofs.operators.operands.doubled.Goals as goal

factors : {a b x y : ℤ} → a ≡ x → b ≡ y → a *ℤ b ≡ x *ℤ y
factors {b = b} {x = x} e f = ap (λ n. n *ℤ b) e ∙ ap (λ p. x *ℤ p) f

pub returns-then-times-lt63 : goal.returns-then-times-lt63
returns-then-times-lt63 c =
    subst (λ r. Gives reason_of (λ (z : ℤ). z) r (within_64_bits (c.args.number *ℤ pos (2 ^ c.args.times)))) (sym c.ok_or.ensures.value) (
    subst (λ z. Gives reason_of (λ (x : ℤ). x) (ok_or c.checked_mul.result NumberTooLarge) (within_64_bits z))
    (factors (to_z-of_z w64 c.args.number c.ranges.number) (one_shifted c.args.times c.if-times-lt63.true))
    (checked _ _ c.checked_mul.ensures))

pub returns : goal.returns
returns c = doubled_outside c.args.number c.args.times c.if-times-lt63.false c.ranges.number c.if-number-eq0.false c.else-number-eqminus1.either
