-- What the commands of a text leave on record, as this program's evaluator reads them: the text is a script (Tcl(n)), in whose
-- words nothing is substituted, and each command calls for a record (modulefile(5)).
use Rattle.std.specs.Prelude.{◌≡◌, List, [], ◌∷◌, false, map, Ok}
use Rattle.tcltext.specs.chars.Runs.{Text}
use Rattle.tcltext.specs.script.Text.{IsWithin}
use Rattle.tcltext.specs.script.Tree.{Commands, no_commands, command, Words, Word, word_of, part, literal, no_parts, words_of}
use Rattle.modulefile.specs.Calls.{call_of, adds_record}
use Rattle.modulefile.specs.Records.{Record}

-- a word that is this text
abbrev pub plain : Text → Word
plain text = word_of false (part (literal text) no_parts)

-- the words are texts, by which a record is called for
abbrev pub HasRecord : Words → Record → Type 0
HasRecord ws r = (texts : List Text) × (ws ≡ words_of (map plain texts)) × (call_of texts ≡ Ok (adds_record r))

-- each command leaves one of the records, in order
abbrev pub Leave : Commands → List Record → Type 0
Leave no_commands [] = Unit {0}
Leave no_commands (r ∷ rs) = ⊥
Leave (command offset source ws cs) [] = ⊥
Leave (command offset source ws cs) (r ∷ rs) = HasRecord ws r × Leave cs rs

-- the commands of a text leave these records
abbrev pub Leaves : Text → List Record → Type 0
Leaves text rs = (s : Commands) × IsWithin text s × Leave s rs

-- the grammar has a tree for the text, within the limits of length and nesting
abbrev pub Parses : Text → Type 0
Parses text = (s : Commands) × IsWithin text s
