-- The beginnings of expressions, by tokens: what the law `correct_prefix` needs to say that a fault is found at the
-- first token that shows it.
use Rattle.std.specs.Prelude.{◌≡◌, ◌+◌, ℕ, List, ◌++◌, length}
use Rattle.tcltext.specs.chars.Runs.{Text}
use Rattle.tcltext.specs.declared.chars.fault.Fault.{Fault}
use Rattle.tcltext.specs.declared.chars.fault.Fault.TheVariants.{OpenBrace, OpenQuote, OpenBracket, JoinedToClose, TooDeep}
use Rattle.tcltext.specs.declared.chars.fault.Fault.TheVariants.{BadCharacter, BadExpression}
use Rattle.tcltext.specs.expr.Tree.{Expr, Token}
use Rattle.tcltext.specs.expr.Grammar.{IsExpr}
use Rattle.tcltext.specs.expr.Marks.{after_white}
use Rattle.tcltext.specs.expr.TokenList.{AreTokens}
use Rattle.tcltext.specs.expr.Operands.{Operand}
use Rattle.tcltext.specs.expr.OperandGrammar.{IsOperand, OperandFault}

-- the tokens are the beginning of some expression
abbrev pub IsViableTokenPrefix : List (Token Operand) → Type 0
IsViableTokenPrefix ts = (more : List (Token Operand)) × (h : ℕ) × (e : Expr Operand) × IsExpr Operand h (ts ++ more) e

-- The fault is that of a text from a token on. A wrong expression is wrong at this token: all bytes of the text remain.
-- Any other fault is one inside the operand that begins here. That marks nest too deeply has no offset.
abbrev pub IsFaultFrom : Fault → Text → Type 0
IsFaultFrom (OpenBrace remaining) bs = (d : ℕ) × OperandFault d bs (OpenBrace remaining)
IsFaultFrom (OpenQuote remaining) bs = (d : ℕ) × OperandFault d bs (OpenQuote remaining)
IsFaultFrom (OpenBracket remaining) bs = (d : ℕ) × OperandFault d bs (OpenBracket remaining)
IsFaultFrom (JoinedToClose remaining) bs = (d : ℕ) × OperandFault d bs (JoinedToClose remaining)
IsFaultFrom TooDeep bs = Unit {0}
IsFaultFrom (BadCharacter remaining) bs = (d : ℕ) × OperandFault d bs (BadCharacter remaining)
IsFaultFrom (BadExpression remaining) bs = length bs ≡ remaining

-- The text begins with tokens that are the beginning of some expression, and the fault comes after them and white
-- space.
pub record FollowsViablePrefix (bs : Text) (f : Fault) : Type 0 where
  pub tokens : List (Token Operand)
  pub rest : Text
  pub are_tokens : AreTokens Operand IsOperand bs rest tokens
  pub is_viable : IsViableTokenPrefix tokens
  pub fault : IsFaultFrom f (after_white rest)

-- the same of a wrong expression, by its offset
abbrev pub HasViablePrefixBefore : Text → ℕ → Type 0
HasViablePrefixBefore bs at =
    (remaining : ℕ) × (at + remaining ≡ length bs) × FollowsViablePrefix bs (BadExpression remaining)
