-- How the operators of expressions are spelled (expr(n)).
use Rattle.std.specs.Prelude.{codes}
use Rattle.tcltext.specs.chars.Runs.{Text}
use Rattle.tcltext.specs.declared.expr.operators.UnaryOperator.{UnaryOperator}
use Rattle.tcltext.specs.declared.expr.operators.UnaryOperator.TheVariants.{Minus, Plus, Complement, Not}
use Rattle.tcltext.specs.declared.expr.operators.BinaryOperator.{BinaryOperator}
use Rattle.tcltext.specs.declared.expr.operators.BinaryOperator.TheVariants as binary

abbrev pub unary_symbol : UnaryOperator → Text
unary_symbol Minus = codes "-"
unary_symbol Plus = codes "+"
unary_symbol Complement = codes "~"
unary_symbol Not = codes "!"

abbrev pub binary_symbol : BinaryOperator → Text
binary_symbol binary.Multiply = codes "*"
binary_symbol binary.Divide = codes "/"
binary_symbol binary.Remainder = codes "%"
binary_symbol binary.Add = codes "+"
binary_symbol binary.Subtract = codes "-"
binary_symbol binary.ShiftLeft = codes "<<"
binary_symbol binary.ShiftRight = codes ">>"
binary_symbol binary.Less = codes "<"
binary_symbol binary.Greater = codes ">"
binary_symbol binary.LessEqual = codes "<="
binary_symbol binary.GreaterEqual = codes ">="
binary_symbol binary.Equal = codes "=="
binary_symbol binary.NotEqual = codes "!="
binary_symbol binary.TextEqual = codes "eq"
binary_symbol binary.TextNotEqual = codes "ne"
binary_symbol binary.In = codes "in"
binary_symbol binary.NotIn = codes "ni"
binary_symbol binary.BitAnd = codes "&"
binary_symbol binary.BitXor = codes "^"
binary_symbol binary.BitOr = codes "|"
