-- The table of refusals (own; docs/REFUSALS.md says when each comes): the number of each, and the text before and after
-- what it names.
use Rattle.std.specs.Prelude.{ℕ, [], codes}
use Rattle.message.specs.Messages.{Text, around, text_of}
use Rattle.message.specs.declared.refusals.NumberedMessage.{NumberedMessage}
use Rattle.message.specs.declared.refusals.RefusalKind.{RefusalKind}
use Rattle.message.specs.declared.refusals.RefusalKind.TheVariants as kinds

-- a row: the number, and the two texts
pub record Row : Type 0 where
  pub number : ℕ
  pub before : Text
  pub after : Text

abbrev pub row : ℕ → Text → Text → Row
row n left right = record { number = n; before = left; after = right }

abbrev pub row_of : RefusalKind → Row
row_of kinds.MemoryForText = row 1 (codes "Out of memory") []
row_of kinds.OpenBrace = row 2 (codes "Missing close-brace at byte ") []
row_of kinds.OpenQuote = row 3 (codes "Missing close-quote at byte ") []
row_of kinds.OpenBracket = row 4 (codes "Missing close-bracket at byte ") []
row_of kinds.JoinedToClose = row 5 (codes "Extra characters after a close at byte ") []
row_of kinds.TextTooDeep = row 6 (codes "Text is nested too deeply") []
row_of kinds.BadCharacter = row 7 (codes "Bad character at byte ") []
row_of kinds.BadExpression = row 8 (codes "Bad expression at byte ") []
row_of kinds.TooLong = row 9 (codes "Text is too long") []
row_of kinds.MemoryForEvaluation = row 11 (codes "Out of memory") []
row_of kinds.BadText = row 12 [] []
row_of kinds.TclError = row 13 [] []
row_of kinds.TooManyCommands = row 14 (codes "Too many commands") []
row_of kinds.EvaluationTooDeep = row 15 (codes "Too many nested evaluations") []
row_of kinds.ValueTooLong = row 16 (codes "A value is too long") []
row_of kinds.NumberTooLarge = row 17 (codes "A number is too large") []
row_of kinds.FractionOperand = row 18 (codes "A number with a fraction is not computed") []
row_of kinds.LeftOut = row 19 (codes "'") (codes "' is left out")
row_of kinds.Stopped = row 20 (codes "Stopped by the modulefile") []
row_of kinds.Host = row 21 (codes "Refused by ") []
row_of kinds.MemoryForRequest = row 31 (codes "Out of memory") []
row_of kinds.BadVariable = row 32 (codes "Bad variable name '") (codes "'")
row_of kinds.Protected = row 33 (codes "Variable '") (codes "' is kept by the tool")
row_of kinds.CounterFull = row 34 (codes "Counter of '") (codes "' is full")
row_of kinds.Inconsistent = row 35 (codes "Loaded modules are inconsistent") []
row_of kinds.BadStack = row 36 (codes "Bad stack of '") (codes "'")
row_of kinds.BadValue = row 37 (codes "Bad value of '") (codes "'")
row_of kinds.MemoryForSearch = row 41 (codes "Out of memory") []
row_of kinds.NotFound = row 42 (codes "Unable to locate a modulefile for '") (codes "'")
row_of kinds.Device = row 43 (codes "Reading failed") []
row_of kinds.BadName = row 44 (codes "Bad module name '") (codes "'")
row_of kinds.BadDefaultFile = row 45 (codes "Bad default file '") (codes "'")
row_of kinds.NotUtf8 = row 46 (codes "Not UTF-8: '") (codes "'")
row_of kinds.ConflictWith = row 51 (codes "Conflict with '") (codes "'")
row_of kinds.PrereqMissing = row 52 (codes "Missing one of '") (codes "'")
row_of kinds.StillNeededBy = row 53 (codes "Still needed by '") (codes "'")
row_of kinds.FileGone = row 54 (codes "No file at '") (codes "'")
row_of kinds.NotAModulefile = row 55 (codes "Not a modulefile: '") (codes "'")
row_of kinds.BadArguments = row 56 (codes "Bad arguments") []
row_of kinds.UnknownSubcommand = row 57 (codes "Unknown subcommand '") (codes "'")
row_of kinds.MemoryForPrinting = row 61 (codes "Out of memory") []
row_of kinds.NotSayable = row 62 (codes "Value of '") (codes "' can't be said in this shell")
row_of kinds.UnknownShell = row 63 (codes "Unknown shell '") (codes "'")
row_of kinds.WriteFailed = row 64 (codes "Writing failed") []

-- the number of a refusal
abbrev pub number_of : RefusalKind → ℕ
number_of kind = (row_of kind).number

-- what a refusal says: a number, and a text after `ERROR: `
pub record NumberedText : Type 0 where
  pub number : ℕ
  pub text : Text

-- the text of a refusal about this subject
abbrev pub text_about : RefusalKind → Text → Text
text_about kind subject = around (row_of kind).before subject (row_of kind).after

-- the refusal in these words
abbrev pub saying : RefusalKind → Text → NumberedText
saying kind words = record { number = number_of kind; text = words }

-- the refusal about this subject
abbrev pub about : RefusalKind → Text → NumberedText
about kind subject = saying kind (text_about kind subject)

-- what the code has
abbrev pub numbered_text : NumberedMessage → NumberedText
numbered_text numbered = record { number = numbered.number; text = text_of numbered.message }
