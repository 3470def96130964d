use Rattle.std.proofs.Common.{ap}
use Rattle.tcltext.specs.expr.View.{operand_view}
use Rattle.tclforms.specs.substitution.Machine.{range_text}
use Rattle.tclforms.proofs.substitution.borrowed_operands.borrowed_operand.Goals as goal

pub returns-in_ok-scalar_content-in-Variable : goal.returns-in_ok-scalar_content-in-Variable
returns-in_ok-scalar_content-in-Variable c =
    let v = ap (operand_view (range_text c.args.source.now)) c.in-Variable.is in
    let h = rw c.of.ensures at c.in_ok-scalar_content-in-Variable.ensures in
    rw v (λ bytes remaining k. h k)
