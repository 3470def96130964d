-- The classes of bytes that runs are made of (Tcl(n), rules 1 to 9), by the code's names for them.
use Rattle.std.specs.Prelude.{ℕ, [], ◌∷◌, Bool, false, not, ◌||◌, ◌&&◌, ◌==◌, nat_le}
use Rattle.tcltext.specs.chars.Bytes.{quote, dollar, right_parenthesis, left_bracket, right_bracket, right_brace, is_blank}
use Rattle.tcltext.specs.chars.Bytes.{is_gap, is_literal, is_space, backslash}
use Rattle.tcltext.specs.chars.Runs.{Text}
use Rattle.tcltext.specs.chars.Backslash.{is_blank_or_tab}
use Rattle.tcltext.specs.declared.chars.runs.Class.{Class}
use Rattle.tcltext.specs.declared.chars.runs.Class.TheVariants.{Blank, Gap, Space, BlankOrTab, Literal, BareScript}
use Rattle.tcltext.specs.declared.chars.runs.Class.TheVariants.{BareBracket, BareIndex, BareQuote, BareElement}
use Rattle.tcltext.specs.declared.chars.runs.Class.TheVariants.{QuotedElement, Name, InBracedName, Unescaped}

-- letters, digits and the underscore, of which the names of variables are made
abbrev pub is_name : ℕ → Bool
is_name b = (nat_le 48 b && nat_le b 57) || (nat_le 65 b && nat_le b 90) || (nat_le 97 b && nat_le b 122) || b == 95

-- what begins a substitution: $ [ and the backslash
abbrev pub is_substitution : ℕ → Bool
is_substitution b = b == dollar || b == left_bracket || b == backslash

-- which bytes a class has
abbrev pub in_class : Class → ℕ → Bool
in_class Blank b = is_blank b
in_class Gap b = is_gap b
in_class Space b = is_space b
in_class BlankOrTab b = is_blank_or_tab b
in_class Literal b = is_literal b
in_class BareScript b = not (is_gap b || is_substitution b)
in_class BareBracket b = not (is_gap b || is_substitution b || b == right_bracket)
in_class BareIndex b = not (is_substitution b || b == right_parenthesis)
in_class BareQuote b = not (is_substitution b || b == quote)
in_class BareElement b = not (is_space b || b == backslash)
in_class QuotedElement b = not (b == quote || b == backslash)
in_class Name b = is_name b
in_class InBracedName b = not (b == right_brace)
in_class Unescaped b = not (b == backslash)

-- whether there is a first byte, and it passes
abbrev pub begins_in : (ℕ → Bool) → Text → Bool
begins_in p [] = false
begins_in p (b ∷ bs) = p b
