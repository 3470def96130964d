-- The text of a message (own): an inserted text between two others.
use Rattle.std.specs.Prelude.{ℕ, List, [], ◌++◌, codes, decimal}
use Rattle.message.specs.declared.Subject.{Subject}
use Rattle.message.specs.declared.Subject.TheVariants.{Nothing, Name, Number, Line}
use Rattle.message.specs.declared.Message.{Message}

-- a text is its bytes
abbrev pub Text : Type 0
Text = List ℕ

-- a text between two others
abbrev pub around : Text → Text → Text → Text
around before subject after = before ++ (subject ++ after)

-- what is written after a message that is about a line
abbrev pub line_text : ℕ → Text
line_text line = codes " (line " ++ (decimal line ++ codes ")")

-- a message and the line that it is about
abbrev pub at_line : Text → ℕ → Text
at_line text line = text ++ line_text line

-- a message that ends with a quoted name
abbrev pub quoting : Text → Text → Text
quoting before subject = around before subject (codes "'")

-- the text that is inserted
abbrev pub subject_text : Subject → Text
subject_text Nothing = []
subject_text (Name name) = name.now
subject_text (Number n) = decimal n
subject_text (Line n) = line_text n

-- the whole text
abbrev pub text_of : Message → Text
text_of message = around message.before.now (subject_text message.subject) message.after.now
