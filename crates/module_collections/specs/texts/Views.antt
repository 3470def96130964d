-- Collections and faults of the code, as the definitions have them, and the texts of faults.
use Rattle.std.specs.Prelude.{◌≡◌, ℕ, List, ◌++◌, codes, decimal, encode_utf8, string_bytes, Option, Some, None, IfSome}
use Rattle.std.specs.Prelude.{Result, Ok, Err}
use Rattle.message.specs.Messages.{around, quoting}
use Rattle.envvars.specs.Texts.{Text, texts_in}
use Rattle.envstate.specs.declared.paths.adding.End.{End}
use Rattle.module_collections.specs.texts.Lines.{Kept, LineReason, neither, bad_words, no_directory, no_module}
use Rattle.module_collections.specs.texts.Collections.{CollectionReason, bad_line, says_nothing, too_long, no_text}
use Rattle.module_collections.specs.declared.texts.collection.Collection.{Collection}
use Rattle.module_collections.specs.declared.texts.words.WordFault.{WordFault}
use Rattle.module_collections.specs.declared.texts.words.WordFault.TheVariants.{Backslash, Evaluated, OpenQuote}
use Rattle.module_collections.specs.declared.texts.words.WordFault.TheVariants.{JoinedToQuote, Braces}
use Rattle.module_collections.specs.declared.texts.words.WordsFault.{WordsFault}
use Rattle.module_collections.specs.declared.texts.words.WordsFault.TheVariants as words
use Rattle.module_collections.specs.declared.texts.fault.LineFault.{LineFault}
use Rattle.module_collections.specs.declared.texts.fault.LineFault.TheVariants as lines
use Rattle.module_collections.specs.declared.texts.fault.CollectionFault.{CollectionFault}
use Rattle.module_collections.specs.declared.texts.fault.CollectionFault.TheVariants as wholes

abbrev pub kept_view : Collection → Kept
kept_view c = record { directories = texts_in c.directories; modules = texts_in c.modules }

-- what is wrong by a fault of a line; want of memory is nothing wrong
abbrev pub line_reason : LineFault → Option LineReason
line_reason lines.OutOfMemory = None
line_reason lines.Neither = Some neither
line_reason (lines.BadWords fault) = Some (bad_words fault)
line_reason (lines.NoDirectory word) = Some (no_directory (string_bytes word))
line_reason (lines.NoModule word) = Some (no_module (string_bytes word))

-- the fault of a line whose words have this one
abbrev pub fault_of_words : WordsFault → LineFault
fault_of_words words.OutOfMemory = lines.OutOfMemory
fault_of_words (words.Wrong fault) = lines.BadWords fault

-- the fault of a line with this number
abbrev pub numbered : ℕ → Option LineReason → Option CollectionReason
numbered number None = None
numbered number (Some reason) = Some (bad_line number reason)

-- what is wrong by a fault of a whole text
abbrev pub reason_of : CollectionFault → Option CollectionReason
reason_of wholes.OutOfMemory = None
reason_of (wholes.BadLine number fault) = numbered number (line_reason fault)
reason_of wholes.SaysNothing = Some says_nothing
reason_of wholes.TooLong = Some too_long
reason_of wholes.NoText = Some no_text

-- what a line makes of a collection of the code
abbrev pub Adds : Result (Unit {0}) LineFault → Collection → Result Kept LineReason → Type 0
Adds (Ok u) collection outcome = outcome ≡ Ok (kept_view collection)
Adds (Err fault) collection outcome = IfSome (line_reason fault) (λ reason. outcome ≡ Err reason)

-- what a line of a text makes of it
abbrev pub Reads : Result (Unit {0}) CollectionFault → Collection → Result Kept CollectionReason → Type 0
Reads (Ok u) collection outcome = outcome ≡ Ok (kept_view collection)
Reads (Err fault) collection outcome = IfSome (reason_of fault) (λ reason. outcome ≡ Err reason)

-- what a word of `module use` makes of it, with the end for those behind it
abbrev pub AddsUsed : Result End LineFault → Collection → Result (End × Kept) LineReason → Type 0
AddsUsed (Ok end) collection outcome = outcome ≡ Ok (end, kept_view collection)
AddsUsed (Err fault) collection outcome = IfSome (line_reason fault) (λ reason. outcome ≡ Err reason)

abbrev pub text_of_words : WordFault → Text
text_of_words Backslash = codes "a backslash before what it gives no meaning"
text_of_words (Evaluated b) = around (codes "the character ") (encode_utf8 b) (codes " without quotes")
text_of_words OpenQuote = codes "a quote that isn't closed"
text_of_words JoinedToQuote = codes "a quote that isn't closed at the end of a word"
text_of_words Braces = codes "braces that aren't closed at the end of a word, or a backslash in them"

abbrev pub text_of_line : LineFault → Text
text_of_line lines.OutOfMemory = codes "Out of memory"
text_of_line lines.Neither = codes "it is neither `module use' nor `module load' with words"
text_of_line (lines.BadWords fault) = text_of_words fault
text_of_line (lines.NoDirectory word) = quoting (codes "no absolute directory without a colon: '") (string_bytes word)
text_of_line (lines.NoModule word) = quoting (codes "no name of a module: '") (string_bytes word)

-- what stands behind the name of the file
abbrev pub text_of : CollectionFault → Text
text_of wholes.OutOfMemory = codes "Out of memory"
text_of (wholes.BadLine number fault) = codes "line " ++ (decimal number ++ (codes ": " ++ text_of_line fault))
text_of wholes.SaysNothing = codes "no line names a module or a directory"
text_of wholes.TooLong = codes "it has more than 65536 bytes"
text_of wholes.NoText = codes "it has a byte that is no text"
