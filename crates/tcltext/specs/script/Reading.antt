-- Reading a script from left to right, with the first fault that is met: the grammar as functions that compute, which
-- the code follows step by step. By the law `script_of_grammar` they agree with the grammar. A fault has the number of
-- bytes that remain from its mark on.
use Rattle.std.specs.Prelude.{ℕ, zero, suc, ◌-◌, List, [], ◌∷◌, length, take, Bool, true, false, ◌==◌, if◌then◌else◌}
use Rattle.std.specs.Prelude.{Option, Some, None, Result, Ok, Err}
use Rattle.tcltext.specs.chars.Runs.{Text, take_while, drop_while}
use Rattle.tcltext.specs.chars.Bytes as bytes
use Rattle.tcltext.specs.chars.Bytes.{quote, dollar, left_parenthesis, right_parenthesis, star, left_bracket, right_bracket}
use Rattle.tcltext.specs.chars.Bytes.{left_brace, right_brace}
use Rattle.tcltext.specs.chars.Classes.{in_class}
use Rattle.tcltext.specs.chars.Backslash.{after_backslash}
use Rattle.tcltext.specs.chars.Braces.{braced_at}
use Rattle.tcltext.specs.chars.Reading.{◌>>=◌, Read, read_map, items_at}
use Rattle.tcltext.specs.declared.chars.fault.Fault.{Fault}
use Rattle.tcltext.specs.declared.chars.fault.Fault.TheVariants.{OpenBrace, OpenQuote, OpenBracket, JoinedToClose, TooDeep}
use Rattle.tcltext.specs.declared.chars.fault.Fault.TheVariants.{BadCharacter}
use Rattle.tcltext.specs.declared.chars.runs.Class.TheVariants.{InBracedName}
use Rattle.tcltext.specs.declared.script.context.Context.{Context}
use Rattle.tcltext.specs.declared.script.context.Context.TheVariants.{InIndex, InQuotes}
use Rattle.tcltext.specs.script.ScanState.{Name, scan, skip_blanks, skip_gap}
use Rattle.tcltext.specs.script.Tree.{Commands, Command, word, Word, word_of, Parts, no_parts, part, Part, literal, braced}
use Rattle.tcltext.specs.script.Tree.{backslash, variable, indexed, bracket, parts_of, words_of, commands_of}
use Rattle.tcltext.specs.script.Ends.{script_ends, command_ends, word_ends, parts_end, class_of, bare}

-- Marks

-- what is read after this mark, where the text begins with it; else the other
abbrev pub on_mark : {A : Type 0} → ℕ → Text → (Text → A) → A → A
on_mark mark [] following other = other
on_mark mark (b ∷ bs) following other = if b == mark then following bs else other

-- the rest after the closing mark, or the fault where it is missing
abbrev pub after_closing : ℕ → Fault → Text → Result Text Fault
after_closing mark fault bs = on_mark mark bs (λ rest. Ok rest) (Err fault)

-- the text after a closing brace or quote, where the word ends there
abbrev pub require_word_end : Bool → Text → Result Text Fault
require_word_end nested bs = if word_ends nested bs then Ok bs else Err (JoinedToClose (length bs))

-- Parts

-- the readers of what brackets and the parentheses of indexes hold
pub record Inner : Type 0 where
  pub script : Text → Read Commands
  pub index : Text → Read Parts

-- after an opening bracket
unfoldable pub bracket_at : Inner → Text → Read Part
bracket_at inner bs = do
  x ← inner.script bs
  rest ← after_closing right_bracket (OpenBracket (suc (length bs))) x.1
  Ok (bracket x.0, rest)

-- the parts of an index, after its opening parenthesis
unfoldable pub index_at : Inner → Text → Read Parts
index_at inner bs = do
  x ← inner.index bs
  rest ← after_closing right_parenthesis (BadCharacter (suc (length bs))) x.1
  Ok (x.0, rest)

-- after the opening brace of a name
unfoldable pub braced_name_at : Text → Read Part
braced_name_at bs = do
  rest ← after_closing right_brace (OpenBrace (suc (length bs))) (drop_while (in_class InBracedName) bs)
  Ok (variable (take_while (in_class InBracedName) bs), rest)

-- a name without an index; without a name the dollar is literal
abbrev pub scalar_variable : Text → Part
scalar_variable [] = literal (dollar ∷ [])
scalar_variable (b ∷ bs) = variable (b ∷ bs)

-- after a name
abbrev pub after_name : Inner → Text × Text → Read Part
after_name inner p =
    on_mark left_parenthesis p.1 (λ bs. read_map (indexed p.0) (index_at inner bs)) (Ok (scalar_variable p.0, p.1))

-- after a dollar
unfoldable pub dollar_at : Inner → Text → Read Part
dollar_at inner bs = on_mark left_brace bs braced_name_at (after_name inner (scan Name bs))

-- after a backslash, by what it stands for; at the end of the text a backslash is literal
abbrev pub escaped : Text → Option (Text × Text) → Read Part
escaped bs (Some p) = Ok (backslash p.0, p.1)
escaped [] None = Ok (literal (bytes.backslash ∷ []), [])
escaped (b ∷ bs) None = Err (BadCharacter (suc (length (b ∷ bs))))

-- after a backslash
unfoldable pub backslash_at : Text → Read Part
backslash_at bs = escaped bs (after_backslash bs)

-- a run of literal text
abbrev pub literal_at : Context → Text → Read Part
literal_at context bs =
    Ok (literal (take_while (in_class (class_of context)) bs), drop_while (in_class (class_of context)) bs)

-- one part, where the parts do not end
unfoldable pub part_at : Context → Inner → Text → Read Part
part_at context inner bs =
    on_mark dollar bs (dollar_at inner) (on_mark left_bracket bs (bracket_at inner)
    (on_mark bytes.backslash bs backslash_at (literal_at context bs)))

-- parts, up to where they end in the context
unfoldable pub parts_with : Context → Inner → Text → Read Parts
parts_with context inner bs =
    read_map parts_of (items_at (λ bs. bs) (parts_end context) (part_at context inner) (suc (length bs)) bs)

-- Words

-- a word in braces, by the text that they enclose
abbrev pub word_in_braces : Bool → ℕ → Option (Text × Text) → Read Parts
word_in_braces nested remaining None = Err (OpenBrace remaining)
word_in_braces nested remaining (Some p) =
    require_word_end nested p.1 >>= (λ rest. Ok (part (braced p.0) no_parts, rest))

-- a word in braces, after the opening brace
unfoldable pub braced_word_at : Bool → Text → Read Parts
braced_word_at nested bs = word_in_braces nested (suc (length bs)) (braced_at false 0 bs)

-- the parts in quotes, after the opening quote
unfoldable pub quotes_at : Inner → Text → Read Parts
quotes_at inner bs = do
  x ← parts_with InQuotes inner bs
  rest ← after_closing quote (OpenQuote (suc (length bs))) x.1
  Ok (x.0, rest)

-- a word in quotes, after the opening quote
unfoldable pub quoted_word_at : Bool → Inner → Text → Read Parts
quoted_word_at nested inner bs = do
  x ← parts_with InQuotes inner bs
  after ← after_closing quote (OpenQuote (suc (length bs))) x.1
  rest ← require_word_end nested after
  Ok (x.0, rest)

-- a word in braces, in quotes or in neither
unfoldable pub unexpanded_word_at : Bool → Inner → Text → Read Parts
unexpanded_word_at nested inner bs =
    on_mark left_brace bs (braced_word_at nested)
    (on_mark quote bs (quoted_word_at nested inner) (parts_with (bare nested) inner bs))

-- the text, unless a word ends before it
abbrev pub unless_word_ends : Bool → Text → Option Text
unless_word_ends nested bs = if word_ends nested bs then None else Some bs

-- the rest after the mark {*}, unless a word ends there
unfoldable pub after_expansion : Bool → Text → Option Text
after_expansion nested bs =
    on_mark left_brace bs (λ xs. on_mark star xs
    (λ ys. on_mark right_brace ys (unless_word_ends nested) None) None) None

-- a word, by the rest after its mark {*}
abbrev pub word_from : Bool → Inner → Text → Option Text → Read Word
word_from nested inner bs None = read_map (word_of false) (unexpanded_word_at nested inner bs)
word_from nested inner bs (Some rest) = read_map (word_of true) (unexpanded_word_at nested inner rest)

-- a word, with the mark {*} before it or without
unfoldable pub word_at : Bool → Inner → Text → Read Word
word_at nested inner bs = word_from nested inner bs (after_expansion nested bs)

-- Commands and scripts

-- the text up to the rest
abbrev pub taken : Text → Text → Text
taken bs rest = take (length bs - length rest) bs

-- the words after the first
abbrev pub words_at : Bool → Inner → Text → Read (List Word)
words_at nested inner bs = items_at skip_blanks (command_ends nested) (word_at nested inner) (suc (length bs)) bs

-- a command, whose first word has that offset
unfoldable pub command_at : ℕ → Bool → Inner → Text → Read Command
command_at offset nested inner bs = do
  w ← word_at nested inner bs
  read_map (λ ws. record { offset = offset; source = taken bs w.1; words = word w.0 (words_of ws) })
      (words_at nested inner w.1)

-- a command of a script of so many bytes, with the rest of the script
abbrev pub command_in : ℕ → Bool → Inner → Text → Read Command
command_in size nested inner bs = command_at (size - length bs) nested inner bs

-- a script, with the readers of what nests in it
unfoldable pub script_with : Bool → Inner → Text → Read Commands
script_with nested inner bs =
    read_map commands_of (items_at skip_gap (script_ends nested) (command_in (length bs) nested inner)
    (suc (length bs)) bs)

-- the readers of what may nest no deeper than the number
unfoldable pub inner_at : ℕ → Inner
inner_at zero = record { script = λ bs. Err TooDeep; index = λ bs. Err TooDeep }
inner_at (suc depth) =
    record { script = script_with true (inner_at depth); index = parts_with InIndex (inner_at depth) }

-- the tree of a whole text, in which no more than that may nest
unfoldable pub whole_script : ℕ → Text → Result Commands Fault
whole_script depth bs = script_with false (inner_at depth) bs >>= (λ x. Ok x.0)
