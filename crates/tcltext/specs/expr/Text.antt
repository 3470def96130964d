-- The tree or the fault of a whole text, within the limits.
use Rattle.std.specs.Prelude.{◌≤◌, ℕ, length, Result}
use Rattle.tcltext.specs.chars.Runs.{Text}
use Rattle.tcltext.specs.chars.Faults.{max_bytes, max_nesting}
use Rattle.tcltext.specs.declared.chars.fault.Fault.{Fault}
use Rattle.tcltext.specs.declared.chars.fault.TextFault.{TextFault}
use Rattle.tcltext.specs.chars.Whole.{IsFaultOf, whole_of}
use Rattle.tcltext.specs.expr.Tree.{Expr}
use Rattle.tcltext.specs.expr.TokenList.{IsExprText}
use Rattle.tcltext.specs.expr.Faults.{ExprTextFault}
use Rattle.tcltext.specs.expr.Operands.{Operand, operand_at}
use Rattle.tcltext.specs.expr.OperandGrammar.{IsOperand, OperandFault}
use Rattle.tcltext.specs.expr.Reading.{expr_at}

-- the text is an expression with this tree, in which operators, parentheses and brackets nest so deep
abbrev pub IsExpression : ℕ → Text → Expr Operand → Type 0
IsExpression h bs e = IsExprText Operand IsOperand h bs e

-- the text is an expression with this tree, within the limits
abbrev pub IsWithin : Text → Expr Operand → Type 0
IsWithin bs e = (h : ℕ) × IsExpression h bs e × (h ≤ max_nesting) × (length bs ≤ max_bytes)

-- the first fault of a text, with the number of bytes that remain from its mark on; so many marks may nest
abbrev pub IsFault : ℕ → Text → Fault → Type 0
IsFault d bs f = ExprTextFault Operand IsOperand OperandFault d bs f

-- what is wrong with a text: it is too long, or its first fault with the offset
abbrev pub IsTextFault : Text → TextFault → Type 0
IsTextFault bs f = IsFaultOf (IsFault max_nesting) bs f

-- the tree of an expression, or what is wrong with the text
abbrev pub expr_of : Text → Result (Expr Operand) TextFault
expr_of bs = whole_of (expr_at operand_at max_nesting) bs
