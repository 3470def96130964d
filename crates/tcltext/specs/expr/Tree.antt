-- Expressions as trees, and the tokens that they are written in (expr(n)). O is the type of operands.
use Rattle.std.specs.Prelude.{ℕ}
use Rattle.tcltext.specs.declared.expr.operators.UnaryOperator.{UnaryOperator}
use Rattle.tcltext.specs.declared.expr.operators.BinaryOperator.{BinaryOperator}
use Rattle.tcltext.specs.declared.expr.operators.Infix.{Infix}
use Rattle.tcltext.specs.declared.expr.operators.Infix.TheVariants as infixes
use Rattle.tcltext.specs.declared.expr.operators.Mark.{Mark}

-- parentheses leave no node
pub data Expr (O : Type 0) : Type 0 where
  operand : O → Expr O
  unary : UnaryOperator → Expr O → Expr O
  binary : BinaryOperator → Expr O → Expr O → Expr O
  conjunction : Expr O → Expr O → Expr O
  disjunction : Expr O → Expr O → Expr O
  choice : Expr O → Expr O → Expr O → Expr O

-- two trees with an operator between them
abbrev pub joined : {O : Type 0} → Infix → Expr O → Expr O → Expr O
joined (infixes.Operator b) x y = binary b x y
joined infixes.And x y = conjunction x y
joined infixes.Or x y = disjunction x y

-- an operand, with how deep brackets and parentheses nest in it, or a mark
pub data Token (O : Type 0) : Type 0 where
  value : O → ℕ → Token O
  mark : Mark → Token O
