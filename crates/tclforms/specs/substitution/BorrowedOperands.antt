-- The text of an operand that is borrowed (own).
use Rattle.tcltext.specs.chars.Runs.{Text}
use Rattle.tclforms.specs.declared.substitution.borrowed_operands.BorrowedOperand.{BorrowedOperand}
use Rattle.tclforms.specs.declared.substitution.borrowed_operands.BorrowedOperand.TheVariants as operands

abbrev pub operand_text : BorrowedOperand → Text
operand_text (operands.Literal t) = t.now
operand_text (operands.Variable content) = content.now
