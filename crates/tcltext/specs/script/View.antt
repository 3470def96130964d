-- The tree of the definitions that a tree of the code stands for, where a piece shows its text.
use Rattle.std.specs.Prelude.{List, map, encode_utf8}
use Rattle.tcltext.specs.chars.Runs.{Text}
use Rattle.tcltext.specs.script.Tree as tree
use Rattle.tcltext.specs.script.Tree.{Commands, Word, word_of, Part, literal, braced, backslash, variable, indexed, bracket}
use Rattle.tcltext.specs.script.Tree.{Parts, no_parts, part, commands_of, words_of, parts_of}
use Rattle.tcltext.specs.declared.script.tree.Script.{Script, Script-F, fold-Script}
use Rattle.tcltext.specs.declared.script.tree.Command.{Command, Command-F, fold-Command}
use Rattle.tcltext.specs.declared.script.tree.Word as rust_word
use Rattle.tcltext.specs.declared.script.tree.WordContent as rust_content
use Rattle.tcltext.specs.declared.script.tree.Part as rust_part

-- Level by level

abbrev pub part_step : {P : Type 0} → (P → Text) → rust_part.Part-F P Part Parts tree.Command Commands Word → Part
part_step shown (rust_part.Part-F.Literal s) = literal (shown s)
part_step shown (rust_part.Part-F.Backslash c) = backslash (encode_utf8 c)
part_step shown (rust_part.Part-F.Variable s) = variable (shown s)
part_step shown (rust_part.Part-F.Indexed s ps) = indexed (shown s) (parts_of ps.items)
part_step shown (rust_part.Part-F.Bracket script) = bracket script

abbrev pub content_step : {P : Type 0} → (P → Text)
    → rust_content.WordContent-F P Part Parts tree.Command Commands Word → Parts
content_step shown (rust_content.WordContent-F.Bare s) = part (literal (shown s)) no_parts
content_step shown (rust_content.WordContent-F.Braced s) = part (braced (shown s)) no_parts
content_step shown (rust_content.WordContent-F.Parts ps) = parts_of ps.items

abbrev pub word_step : {P : Type 0} → rust_word.Word-F P Part Parts tree.Command Commands Word → Word
word_step w = word_of w.expands w.content

abbrev pub command_step : {P : Type 0} → (P → Text) → Command-F P Part Parts tree.Command Commands Word → tree.Command
command_step shown c = record { offset = c.offset; source = shown c.source; words = words_of c.words.items }

abbrev pub script_step : {P : Type 0} → Script-F P Part Parts tree.Command Commands Word → Commands
script_step s = commands_of s.commands.items

abbrev pub part_view : {P : Type 0} → (P → Text) → rust_part.Part P → Part
part_view {P} shown =
    rust_part.fold-Part P Part Parts tree.Command Commands Word (part_step shown) (content_step shown)
    (command_step shown) script_step word_step

abbrev pub word_view : {P : Type 0} → (P → Text) → rust_word.Word P → Word
word_view {P} shown =
    rust_word.fold-Word P Part Parts tree.Command Commands Word (part_step shown) (content_step shown)
    (command_step shown) script_step word_step

abbrev pub content_view : {P : Type 0} → (P → Text) → rust_content.WordContent P → Parts
content_view {P} shown =
    rust_content.fold-WordContent P Part Parts tree.Command Commands Word (part_step shown) (content_step shown)
    (command_step shown)
    script_step word_step

abbrev pub command_view : {P : Type 0} → (P → Text) → Command P → tree.Command
command_view {P} shown =
    fold-Command P Part Parts tree.Command Commands Word (part_step shown) (content_step shown) (command_step shown)
    script_step word_step

abbrev pub script_view : {P : Type 0} → (P → Text) → Script P → Commands
script_view {P} shown =
    fold-Script P Part Parts tree.Command Commands Word (part_step shown) (content_step shown) (command_step shown)
    script_step word_step

abbrev pub parts_view : {P : Type 0} → (P → Text) → List (rust_part.Part P) → Parts
parts_view shown ps = parts_of (map (part_view shown) ps)
