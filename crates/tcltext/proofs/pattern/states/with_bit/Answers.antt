use Rattle.std.proofs.Common.{◌≡◌, ◌∙◌, sym, true, false, arith, w64}
use Rattle.std.proofs.lemmas.Nat.Bits.{bit_at_set_same, bit_at_set_other, bit_at_clear_same, bit_at_clear_other}
use Rattle.tcltext.proofs.pattern.states.with_bit.Goals as goal

pub returns-then-value-clause-here : goal.returns-then-value-clause-here
returns-then-value-clause-here c = (λ h. c.if-value.true, λ h. bit_at_set_same w64 c.args.word c.args.at c.requires)

pub returns-then-value-clause-elsewhere : goal.returns-then-value-clause-elsewhere
returns-then-value-clause-elsewhere c k within other = bit_at_set_other w64 c.args.word c.args.at c.requires k other

pub returns-else-value-clause-here : goal.returns-else-value-clause-here
returns-else-value-clause-here c =
    let gone = bit_at_clear_same w64 c.args.word c.args.at c.requires in
    (λ h. absurd (omega (arith, gone, h)), λ h. absurd (never (sym c.if-value.false ∙ h))) where
      never : false ≡ true → ⊥
      never h = cc

pub returns-else-value-clause-elsewhere : goal.returns-else-value-clause-elsewhere
returns-else-value-clause-elsewhere c k within other = bit_at_clear_other w64 c.args.word c.args.at c.requires k within other
