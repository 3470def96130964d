-- Where scripts, commands, words and parts end (Tcl(n), rules 1 to 6), by the bytes that follow.
use Rattle.std.specs.Prelude.{ℕ, [], ◌∷◌, Bool, true, false, ◌||◌, ◌&&◌, ◌==◌}
use Rattle.tcltext.specs.chars.Runs.{Text, begins}
use Rattle.tcltext.specs.chars.Bytes.{newline, backslash, is_end, is_gap, quote, right_bracket, right_parenthesis}
use Rattle.tcltext.specs.declared.chars.runs.Class.{Class}
use Rattle.tcltext.specs.declared.chars.runs.Class.TheVariants.{BareScript, BareBracket, BareIndex, BareQuote}
use Rattle.tcltext.specs.declared.script.context.Nesting.{Nesting}
use Rattle.tcltext.specs.declared.script.context.Nesting.TheVariants.{Top, InBrackets}
use Rattle.tcltext.specs.declared.script.context.Context.{Context}
use Rattle.tcltext.specs.declared.script.context.Context.TheVariants.{InScript, InBracket, InIndex, InQuotes}

-- whether a script is in brackets
abbrev pub is_nested : Nesting → Bool
is_nested Top = false
is_nested InBrackets = true

-- a script in brackets ends at the closing bracket
abbrev pub script_ends : Bool → Text → Bool
script_ends nested [] = true
script_ends nested (b ∷ bs) = nested && b == right_bracket

-- a command ends at a newline or semicolon as well
abbrev pub command_ends : Bool → Text → Bool
command_ends nested [] = true
command_ends nested (b ∷ bs) = is_end b || (nested && b == right_bracket)

-- a word ends at white space as well, of which a backslash before a newline is a part
abbrev pub word_ends : Bool → Text → Bool
word_ends nested [] = true
word_ends nested (b ∷ bs) = is_gap b || (nested && b == right_bracket) || (b == backslash && begins newline bs)

-- the text is empty or begins with this mark
abbrev pub ends_at : ℕ → Text → Bool
ends_at mark [] = true
ends_at mark (b ∷ bs) = b == mark

-- the parts of a bare word end with it, those of an index at its parenthesis, and those of a quoted word at its quote
abbrev pub parts_end : Context → Text → Bool
parts_end InScript bs = word_ends false bs
parts_end InBracket bs = word_ends true bs
parts_end InIndex bs = ends_at right_parenthesis bs
parts_end InQuotes bs = ends_at quote bs

-- the bytes that are literal there
abbrev pub class_of : Context → Class
class_of InScript = BareScript
class_of InBracket = BareBracket
class_of InIndex = BareIndex
class_of InQuotes = BareQuote

-- the context of a word without quotes and braces, in brackets or not
abbrev pub bare : Bool → Context
bare true = InBracket
bare false = InScript
