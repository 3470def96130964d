-- What is wrong with a text that is no expression (own): the first mark or byte that may not come there, or the end of
-- the text. The definitions go by cases over texts.
use Rattle.std.specs.Prelude.{◌≡◌, ◌≢◌, ◌≤◌, ◌-◌, ℕ, suc, List, [], ◌∷◌, ◌++◌, length, Some, None, ◌⊎◌}
use Rattle.tcltext.specs.chars.Runs.{Text}
use Rattle.tcltext.specs.declared.chars.fault.Fault.{Fault}
use Rattle.tcltext.specs.declared.chars.fault.Fault.TheVariants.{TooDeep, BadExpression}
use Rattle.tcltext.specs.declared.expr.operators.UnaryOperator.{UnaryOperator}
use Rattle.tcltext.specs.declared.expr.operators.Infix.{Infix}
use Rattle.tcltext.specs.declared.expr.operators.Mark.{Mark}
use Rattle.tcltext.specs.declared.expr.operators.Mark.TheVariants as marks
use Rattle.tcltext.specs.expr.Tree.{Expr, Token, mark}
use Rattle.tcltext.specs.expr.Grammar.{level, sign_of, IsExpr, IsChain}
use Rattle.tcltext.specs.expr.Marks.{after_white, mark_at}
use Rattle.tcltext.specs.expr.TokenList.{AreTokens}

-- the next token is no mark of that kind
abbrev pub NextIsNot : (Mark → Type 0) → Text → Type 0
NextIsNot Kind bs = (m : Mark) (rest : Text) → mark_at (after_white bs) ≡ Some (m, rest) → Kind m → ⊥

-- the next token, if it is an operator between two operands, is of that level at least
abbrev pub Follows : ℕ → Text → Type 0
Follows n bs = (i : Infix) (rest : Text) → mark_at (after_white bs) ≡ Some (marks.Infix i, rest) → n ≤ level i

-- what may follow an expression: an operator between two operands, or a question mark
abbrev pub MayFollow : Mark → Type 0
MayFollow (marks.Infix i) = Unit {0}
MayFollow marks.QuestionMark = Unit {0}
MayFollow m = ⊥

-- such a mark, or the one that is expected
abbrev pub MayFollowOr : Mark → Mark → Type 0
MayFollowOr expected m = MayFollow m ⊎ (m ≡ expected)

-- what an operand may begin with besides its own bytes: a unary operator, or a parenthesis
abbrev pub BeginsOperand : Mark → Type 0
BeginsOperand m = (m ≡ marks.Open) ⊎ ((u : UnaryOperator) × (sign_of m ≡ Some u))

-- the fault that the next token is wrong
abbrev pub bad_next : Text → Fault
bad_next bs = BadExpression (length (after_white bs))

-- OperandFault d bs f: the text begins with no operand in which brackets and parentheses nest d deep at most, and f is
-- the fault. The number d of the definitions is how deep marks may still nest.
mutual
  -- in a whole expression: its condition, a branch of its choice, or a missing colon
  pub data ExprFault (O : Type 0) (IsOperand : Text → Text → O → ℕ → Type 0)
      (OperandFault : ℕ → Text → Fault → Type 0) : ℕ → Text → Fault → Type 0 where
    in_condition : {d : ℕ} {bs : Text} {f : Fault} → ChainFault O IsOperand OperandFault d 13 bs f
        → ExprFault O IsOperand OperandFault d bs f
    deep_choice : {d : ℕ} {bs : Text} (cs : List (Token O)) (c : Expr O) (after : Text) → IsChain O d 13 cs c
        → AreTokens O IsOperand bs after (cs ++ mark marks.QuestionMark ∷ [])
        → ExprFault O IsOperand OperandFault d bs TooDeep
    in_yes : {d : ℕ} {bs : Text} {f : Fault} (cs : List (Token O)) (c : Expr O) (h : ℕ) (after : Text)
        → IsChain O h 13 cs c → h ≤ d → AreTokens O IsOperand bs after (cs ++ mark marks.QuestionMark ∷ [])
        → ExprFault O IsOperand OperandFault d after f → ExprFault O IsOperand OperandFault (suc d) bs f
    no_colon : {d : ℕ} {bs : Text} (cs : List (Token O)) (c : Expr O) (h : ℕ) (ys : List (Token O)) (y : Expr O) (i : ℕ)
        (after : Text) → IsChain O h 13 cs c → h ≤ d → IsExpr O i ys y → i ≤ d
        → AreTokens O IsOperand bs after (cs ++ mark marks.QuestionMark ∷ ys)
        → NextIsNot (MayFollowOr marks.Colon) after
        → ExprFault O IsOperand OperandFault (suc d) bs (bad_next after)
    in_no : {d : ℕ} {bs : Text} {f : Fault} (cs : List (Token O)) (c : Expr O) (h : ℕ) (ys : List (Token O))
        (y : Expr O) (i : ℕ) (after : Text) → IsChain O h 13 cs c → h ≤ d → IsExpr O i ys y → i ≤ d
        → AreTokens O IsOperand bs after (cs ++ mark marks.QuestionMark ∷ (ys ++ mark marks.Colon ∷ []))
        → ExprFault O IsOperand OperandFault d after f → ExprFault O IsOperand OperandFault (suc d) bs f

  -- in a chain of operands, by operators of the level of the second number at most
  pub data ChainFault (O : Type 0) (IsOperand : Text → Text → O → ℕ → Type 0)
      (OperandFault : ℕ → Text → Fault → Type 0) : ℕ → ℕ → Text → Fault → Type 0 where
    in_operand : {d n : ℕ} {bs : Text} {f : Fault} → mark_at (after_white bs) ≡ None → OperandFault d (after_white bs) f
        → ChainFault O IsOperand OperandFault d n bs f
    no_operand : {d n : ℕ} {bs : Text} (m : Mark) (after : Text) → mark_at (after_white bs) ≡ Some (m, after)
        → (BeginsOperand m → ⊥) → ChainFault O IsOperand OperandFault d n bs (bad_next bs)
    deep_prefix : {n : ℕ} {bs : Text} (m : Mark) (after : Text) → mark_at (after_white bs) ≡ Some (m, after)
        → BeginsOperand m
        → ChainFault O IsOperand OperandFault 0 n bs TooDeep
    in_signed : {d n : ℕ} {bs : Text} {f : Fault} (m : Mark) (u : UnaryOperator) (after : Text)
        → mark_at (after_white bs) ≡ Some (m, after) → sign_of m ≡ Some u
        → ChainFault O IsOperand OperandFault d 1 after f → ChainFault O IsOperand OperandFault (suc d) n bs f
    in_open : {d n : ℕ} {bs : Text} {f : Fault} (after : Text) → mark_at (after_white bs) ≡ Some (marks.Open, after)
        → ExprFault O IsOperand OperandFault d after f → ChainFault O IsOperand OperandFault (suc d) n bs f
    no_close : {d n : ℕ} {bs : Text} (ts : List (Token O)) (e : Expr O) (h : ℕ) (after : Text) → IsExpr O h ts e → h ≤ d
        → AreTokens O IsOperand bs after (mark marks.Open ∷ ts) → NextIsNot (MayFollowOr marks.Close) after
        → ChainFault O IsOperand OperandFault (suc d) n bs (bad_next after)
    deep_operator : {d n : ℕ} {bs : Text} (i : Infix) (ls : List (Token O)) (l : Expr O) (after : Text) → level i ≤ n
        → IsChain O d (level i) ls l → AreTokens O IsOperand bs after (ls ++ mark (marks.Infix i) ∷ [])
        → ChainFault O IsOperand OperandFault d n bs TooDeep
    in_right : {d n : ℕ} {bs : Text} {f : Fault} (i : Infix) (ls : List (Token O)) (l : Expr O) (h : ℕ) (after : Text)
        → level i ≤ n → IsChain O h (level i) ls l → h ≤ d
        → AreTokens O IsOperand bs after (ls ++ mark (marks.Infix i) ∷ [])
        → ChainFault O IsOperand OperandFault d (level i - 1) after f
        → ChainFault O IsOperand OperandFault (suc d) n bs f

-- the first fault of a text: inside its expression, or the token after that
pub data ExprTextFault (O : Type 0) (IsOperand : Text → Text → O → ℕ → Type 0)
    (OperandFault : ℕ → Text → Fault → Type 0) : ℕ → Text → Fault → Type 0 where
  inside : {d : ℕ} {bs : Text} {f : Fault} → ExprFault O IsOperand OperandFault d bs f
      → ExprTextFault O IsOperand OperandFault d bs f
  trailing : {d : ℕ} {bs : Text} (ts : List (Token O)) (e : Expr O) (h : ℕ) (after : Text) → IsExpr O h ts e → h ≤ d
      → AreTokens O IsOperand bs after ts → NextIsNot MayFollow after → after_white after ≢ []
      → ExprTextFault O IsOperand OperandFault d bs (bad_next after)
