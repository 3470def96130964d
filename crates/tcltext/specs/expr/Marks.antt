-- White space, and the operators and parentheses of an expression (expr(n), OPERATORS).
use Rattle.std.specs.Prelude.{ℕ, [], ◌∷◌, Bool, false, ◌||◌, ◌&&◌, ◌==◌, if◌then◌else◌, Option, Some, None}
use Rattle.tcltext.specs.chars.Runs.{Text, take_while, drop_while, begins}
use Rattle.tcltext.specs.chars.Bytes.{is_space, newline, backslash, left_parenthesis, right_parenthesis, star, colon}
use Rattle.tcltext.specs.chars.Classes.{is_name}
use Rattle.tcltext.specs.declared.expr.operators.BinaryOperator.TheVariants.{Multiply, Divide, Remainder, Add, Subtract}
use Rattle.tcltext.specs.declared.expr.operators.BinaryOperator.TheVariants.{ShiftLeft, ShiftRight, Less, Greater, LessEqual}
use Rattle.tcltext.specs.declared.expr.operators.BinaryOperator.TheVariants.{GreaterEqual, Equal, NotEqual, TextEqual}
use Rattle.tcltext.specs.declared.expr.operators.BinaryOperator.TheVariants.{TextNotEqual, In, NotIn, BitAnd, BitXor, BitOr}
use Rattle.tcltext.specs.declared.expr.operators.Infix.TheVariants.{Operator, And, Or}
use Rattle.tcltext.specs.declared.expr.operators.Mark.{Mark}
use Rattle.tcltext.specs.declared.expr.operators.Mark.TheVariants.{Open, Close, QuestionMark, Colon, Complement, Not, Infix}

-- The bytes of operators, by their codes

abbrev pub exclamation_mark : ℕ
exclamation_mark = 33

abbrev pub percent_sign : ℕ
percent_sign = 37

abbrev pub ampersand : ℕ
ampersand = 38

abbrev pub plus_sign : ℕ
plus_sign = 43

abbrev pub minus_sign : ℕ
minus_sign = 45

abbrev pub slash : ℕ
slash = 47

abbrev pub less_than : ℕ
less_than = 60

abbrev pub equals_sign : ℕ
equals_sign = 61

abbrev pub greater_than : ℕ
greater_than = 62

abbrev pub question_mark : ℕ
question_mark = 63

abbrev pub caret : ℕ
caret = 94

abbrev pub vertical_bar : ℕ
vertical_bar = 124

abbrev pub tilde : ℕ
tilde = 126

-- the text begins with white space, or with a backslash before a newline
abbrev pub begins_white : Text → Bool
begins_white [] = false
begins_white (b ∷ bs) = is_space b || (b == backslash && begins newline bs)

-- the text without the white space that it begins with
unfoldable pub after_white : Text → Text
after_white [] = []
after_white (b ∷ bs) = if begins_white (b ∷ bs) then after_white bs else b ∷ bs

-- the operators of two bytes
abbrev pub two_bytes : ℕ → ℕ → Option Mark
two_bytes b c =
    if b == less_than && c == less_than then Some (Infix (Operator ShiftLeft))
    else if b == greater_than && c == greater_than then Some (Infix (Operator ShiftRight))
    else if b == less_than && c == equals_sign then Some (Infix (Operator LessEqual))
    else if b == greater_than && c == equals_sign then Some (Infix (Operator GreaterEqual))
    else if b == equals_sign && c == equals_sign then Some (Infix (Operator Equal))
    else if b == exclamation_mark && c == equals_sign then Some (Infix (Operator NotEqual))
    else if b == ampersand && c == ampersand then Some (Infix And)
    else if b == vertical_bar && c == vertical_bar then Some (Infix Or)
    else None

-- the marks of one byte
abbrev pub one_byte : ℕ → Option Mark
one_byte b =
    if b == left_parenthesis then Some Open
    else if b == right_parenthesis then Some Close
    else if b == question_mark then Some QuestionMark
    else if b == colon then Some Colon
    else if b == tilde then Some Complement
    else if b == exclamation_mark then Some Not
    else if b == star then Some (Infix (Operator Multiply))
    else if b == slash then Some (Infix (Operator Divide))
    else if b == percent_sign then Some (Infix (Operator Remainder))
    else if b == plus_sign then Some (Infix (Operator Add))
    else if b == minus_sign then Some (Infix (Operator Subtract))
    else if b == less_than then Some (Infix (Operator Less))
    else if b == greater_than then Some (Infix (Operator Greater))
    else if b == ampersand then Some (Infix (Operator BitAnd))
    else if b == caret then Some (Infix (Operator BitXor))
    else if b == vertical_bar then Some (Infix (Operator BitOr))
    else None

-- the words that are operators: eq ne in ni
abbrev pub word_mark : Text → Option Mark
word_mark (b ∷ (c ∷ [])) =
    if b == 101 && c == 113 then Some (Infix (Operator TextEqual))
    else if b == 110 && c == 101 then Some (Infix (Operator TextNotEqual))
    else if b == 105 && c == 110 then Some (Infix (Operator In))
    else if b == 110 && c == 105 then Some (Infix (Operator NotIn))
    else None
word_mark bs = None

-- the mark with the rest of the text
abbrev pub before : Text → Option Mark → Option (Mark × Text)
before rest None = None
before rest (Some m) = Some (m, rest)

-- the first that was found
abbrev pub longest : Option (Mark × Text) → Option (Mark × Text) → Option (Mark × Text)
longest (Some found) shorter = Some found
longest None shorter = shorter

-- a mark of two bytes or one, the longest that fits; ** is none
abbrev pub symbol_at : Text → Option (Mark × Text)
symbol_at [] = None
symbol_at (b ∷ []) = before [] (one_byte b)
symbol_at (b ∷ (c ∷ bs)) =
    if b == star && c == star then None else longest (before bs (two_bytes b c)) (before (c ∷ bs) (one_byte b))

-- the mark that the text begins with, and the rest
unfoldable pub mark_at : Text → Option (Mark × Text)
mark_at bs = longest (before (drop_while is_name bs) (word_mark (take_while is_name bs))) (symbol_at bs)
