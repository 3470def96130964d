use Rattle.std.proofs.Common.{◌≡◌, sym, ◌∷◌, false, suc, length}
use Rattle.tcltext.proofs.chars.BraceClose.{close_sound}
use Rattle.tcltext.proofs.expr.OperandSteps.{braced-read, braced-open}
use Rattle.tcltext.proofs.expr.operand.read_braced.Goals as goal

pub cut-requires-clause-prefix : goal.cut-requires-clause-prefix
cut-requires-clause-prefix g c = (125 ∷ c.in-Some.rest.now, (close_sound c.args.text.now false 0 c.in-Some.inner.now c.in-Some.rest.now (sym c.in-Some.ensures)).0)

pub returns-in-Some : goal.returns-in-Some
returns-in-Some g c = braced-read c.args.text.now c.in-Some.inner.now (g.S.Source.shown c.args.source.now c.cut.result) c.in-Some.rest.now (sym c.in-Some.ensures) c.cut.ensures.text

pub returns-in-None : goal.returns-in-None
returns-in-None g c =
    let left : c.remaining_with_mark.result ≡ suc (length c.args.text.now) = c.remaining_with_mark.ensures in
    braced-open c.args.text.now c.remaining_with_mark.result (sym c.in-None.ensures) left
