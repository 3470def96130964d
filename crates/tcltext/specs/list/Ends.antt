-- What ends an element that has no braces, by the code's own names for it.
use Rattle.std.specs.Prelude.{ℕ, Bool, not, ◌||◌, ◌==◌}
use Rattle.tcltext.specs.chars.Bytes.{backslash, is_space}
use Rattle.tcltext.specs.list.ListGrammar.{is_quote}
use Rattle.tcltext.specs.declared.list.read.End.{End}
use Rattle.tcltext.specs.declared.list.read.End.TheVariants.{Space, Quote}

-- the byte ends the element
abbrev pub ends_piece : End → ℕ → Bool
ends_piece Space b = is_space b
ends_piece Quote b = is_quote b

-- the byte is literal before that end
abbrev pub is_literal_before : End → ℕ → Bool
is_literal_before end b = not (ends_piece end b || b == backslash)
