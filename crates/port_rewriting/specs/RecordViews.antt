-- Records, words and lists of the code as the definitions have them.
use Rattle.std.specs.Prelude.{◌≡◌, List, map, string_bytes, String, Vec}
use Rattle.std.specs.Borrow.{Bor}
use Rattle.std.specs.declared.alloc.Global.{Global}
use Rattle.tcltext.specs.chars.Runs.{Text}
use Rattle.tcltext.specs.script.Tree as tree
use Rattle.tcltext.specs.script.Tree.{commands_of}
use Rattle.tcltext.specs.script.View.{command_view, word_view}
use Rattle.tcltext.specs.declared.script.tree.Command.{Command}
use Rattle.tcltext.specs.declared.script.tree.Word.{Word}
use Rattle.modulefile.specs.Records as records
use Rattle.modulefile.specs.RecordViews.{record_view}
use Rattle.modulefile.specs.declared.records.Record.{Record}
use Rattle.port_rewriting.specs.Leaving.{plain}

abbrev pub records_view : List Record → List records.Record
records_view rs = map record_view rs

abbrev pub texts_in : Vec (String Global) Global → List Text
texts_in v = map string_bytes v.items

abbrev pub lists_view : List (Vec (String Global) Global) → List (List Text)
lists_view lists = map texts_in lists

abbrev pub shown : Bor Text → Text
shown piece = piece.now

-- the words are these texts
abbrev pub AreTexts : List (Word (Bor Text)) → List Text → Type 0
AreTexts words texts = map (word_view shown) words ≡ map plain texts

abbrev pub commands_view : List (Command (Bor Text)) → tree.Commands
commands_view cs = commands_of (map (command_view shown) cs)
