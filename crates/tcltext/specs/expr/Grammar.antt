-- The grammar of expressions (expr(n)): which lists of tokens are expressions, with their trees.
use Rattle.std.specs.Prelude.{◌≡◌, ◌≤◌, ◌-◌, ℕ, suc, max, List, [], ◌∷◌, ◌++◌, Option, Some, None}
use Rattle.tcltext.specs.declared.expr.operators.UnaryOperator.{UnaryOperator}
use Rattle.tcltext.specs.declared.expr.operators.UnaryOperator.TheVariants as signs
use Rattle.tcltext.specs.declared.expr.operators.BinaryOperator.{BinaryOperator}
use Rattle.tcltext.specs.declared.expr.operators.BinaryOperator.TheVariants.{Multiply, Divide, Remainder, Add, Subtract}
use Rattle.tcltext.specs.declared.expr.operators.BinaryOperator.TheVariants.{ShiftLeft, ShiftRight, Less, Greater, LessEqual}
use Rattle.tcltext.specs.declared.expr.operators.BinaryOperator.TheVariants.{GreaterEqual, Equal, NotEqual, TextEqual}
use Rattle.tcltext.specs.declared.expr.operators.BinaryOperator.TheVariants.{TextNotEqual, In, NotIn, BitAnd, BitXor, BitOr}
use Rattle.tcltext.specs.declared.expr.operators.Infix.{Infix}
use Rattle.tcltext.specs.declared.expr.operators.Infix.TheVariants.{Operator, And, Or}
use Rattle.tcltext.specs.declared.expr.operators.Mark.{Mark}
use Rattle.tcltext.specs.declared.expr.operators.Mark.TheVariants as marks
use Rattle.tcltext.specs.expr.Tree.{Expr, operand, unary, choice, joined, Token, value, mark}

-- The levels of precedence, from the one that binds most tightly: unary operators are level 1, a choice is level 14.
abbrev pub operator_level : BinaryOperator → ℕ
operator_level Multiply = 2
operator_level Divide = 2
operator_level Remainder = 2
operator_level Add = 3
operator_level Subtract = 3
operator_level ShiftLeft = 4
operator_level ShiftRight = 4
operator_level Less = 5
operator_level Greater = 5
operator_level LessEqual = 5
operator_level GreaterEqual = 5
operator_level Equal = 6
operator_level NotEqual = 6
operator_level TextEqual = 7
operator_level TextNotEqual = 7
operator_level In = 8
operator_level NotIn = 8
operator_level BitAnd = 9
operator_level BitXor = 10
operator_level BitOr = 11

abbrev pub level : Infix → ℕ
level (Operator b) = operator_level b
level And = 12
level Or = 13

-- the unary operator that a mark is where an operand could begin
abbrev pub sign_of : Mark → Option UnaryOperator
sign_of marks.Complement = Some signs.Complement
sign_of marks.Not = Some signs.Not
sign_of (marks.Infix (Operator Add)) = Some signs.Plus
sign_of (marks.Infix (Operator Subtract)) = Some signs.Minus
sign_of m = None

-- The tokens are an expression with this tree; the number is how deep operators, parentheses and brackets nest in it.
mutual
  pub data IsExpr (O : Type 0) : ℕ → List (Token O) → Expr O → Type 0 where
    simple : {h : ℕ} {ts : List (Token O)} {e : Expr O} → IsChain O h 13 ts e → IsExpr O h ts e
    choosing : {h i j : ℕ} (cs ys ns : List (Token O)) {c y n : Expr O} → IsChain O h 13 cs c → IsExpr O i ys y
        → IsExpr O j ns n
        → IsExpr O (suc (max h (max i j))) (cs ++ mark marks.QuestionMark ∷ (ys ++ mark marks.Colon ∷ ns))
        (choice c y n)

  -- the same, where no operator between two operands, outside parentheses, is of a level above the second number;
  -- operators group to the left
  pub data IsChain (O : Type 0) : ℕ → ℕ → List (Token O) → Expr O → Type 0 where
    single : {h n : ℕ} (o : O) → IsChain O h n (value o h ∷ []) (operand o)
    in_parentheses : {h n : ℕ} (ts : List (Token O)) {e : Expr O} → IsExpr O h ts e
        → IsChain O (suc h) n (mark marks.Open ∷ (ts ++ mark marks.Close ∷ [])) e
    signed : {h n : ℕ} {m : Mark} (u : UnaryOperator) {ts : List (Token O)} {e : Expr O} → sign_of m ≡ Some u
        → IsChain O h 1 ts e → IsChain O (suc h) n (mark m ∷ ts) (unary u e)
    joining : {h j n : ℕ} (i : Infix) (ls rs : List (Token O)) {l r : Expr O} → level i ≤ n → IsChain O h (level i) ls l
        → IsChain O j (level i - 1) rs r
        → IsChain O (suc (max h j)) n (ls ++ mark (marks.Infix i) ∷ rs) (joined i l r)
