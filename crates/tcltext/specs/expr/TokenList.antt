-- Texts as lists of tokens (expr(n)).
use Rattle.std.specs.Prelude.{◌≡◌, ℕ, List, [], ◌∷◌, Some, None}
use Rattle.tcltext.specs.chars.Runs.{Text}
use Rattle.tcltext.specs.expr.Tree.{Expr, Token, value, mark}
use Rattle.tcltext.specs.expr.Grammar.{IsExpr}
use Rattle.tcltext.specs.expr.Marks.{after_white, mark_at}

-- IsOperand bs rest o k: the text bs begins with the operand o, in which brackets and parentheses nest k deep, and then
-- comes the rest
module _ (O : Type 0) (IsOperand : Text → Text → O → ℕ → Type 0) where
  -- after white space the text begins with this token, and then comes the rest
  abbrev pub IsToken : Text → Text → Token O → Type 0
  IsToken bs rest (value o k) = (mark_at (after_white bs) ≡ None) × IsOperand (after_white bs) rest o k
  IsToken bs rest (mark m) = mark_at (after_white bs) ≡ Some (m, rest)

  -- the text begins with these tokens, and then comes the rest
  abbrev pub AreTokens : Text → Text → List (Token O) → Type 0
  AreTokens bs rest [] = bs ≡ rest
  AreTokens bs rest (t ∷ ts) = (after : Text) × IsToken bs after t × AreTokens after rest ts

  -- the text is an expression with this tree, which nests as deep as the number
  abbrev pub IsExprText : ℕ → Text → Expr O → Type 0
  IsExprText h bs e =
      (ts : List (Token O)) × (rest : Text) × IsExpr O h ts e × AreTokens bs rest ts × (after_white rest ≡ [])
