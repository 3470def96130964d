-- A script as a tree (Tcl(n)): commands of words, words of parts, and in the parts again scripts (in brackets) and
-- parts (in the parentheses of an index).
use Rattle.std.specs.Prelude.{ℕ, List, [], ◌∷◌, Bool, max, suc}
use Rattle.tcltext.specs.chars.Runs.{Text}

mutual
  -- commands, each with the byte offset of its first word in the script, and with that word's source text
  pub data Commands : Type 0 where
    no_commands : Commands
    command : ℕ → Text → Words → Commands → Commands

  pub data Words : Type 0 where
    no_words : Words
    word : Word → Words → Words

  -- a word; the flag is true where it expands: the elements of its list are the words
  pub data Word : Type 0 where
    word_of : Bool → Parts → Word

  pub data Parts : Type 0 where
    no_parts : Parts
    part : Part → Parts → Parts

  -- A literal is its own value; braced is the text between the braces of a word, as it is; backslash is what a
  -- backslash stands for; variable and indexed have the name of a variable, and the parts of an index; bracket is a
  -- script whose result is the value.
  pub data Part : Type 0 where
    literal : Text → Part
    braced : Text → Part
    backslash : Text → Part
    variable : Text → Part
    indexed : Text → Parts → Part
    bracket : Commands → Part

-- a command by itself
pub record Command : Type 0 where
  pub offset : ℕ
  pub source : Text
  pub words : Words

-- From lists

abbrev pub commands_before : List Command → Commands → Commands
commands_before [] more = more
commands_before (c ∷ cs) more = command c.offset c.source c.words (commands_before cs more)

abbrev pub words_before : List Word → Words → Words
words_before [] more = more
words_before (w ∷ ws) more = word w (words_before ws more)

abbrev pub parts_before : List Part → Parts → Parts
parts_before [] more = more
parts_before (p ∷ ps) more = part p (parts_before ps more)

abbrev pub commands_of : List Command → Commands
commands_of cs = commands_before cs no_commands

abbrev pub words_of : List Word → Words
words_of ws = words_before ws no_words

abbrev pub parts_of : List Part → Parts
parts_of ps = parts_before ps no_parts

-- How deep brackets and the parentheses of indexes nest

abbrev mutual
  pub nesting : Commands → ℕ
  nesting no_commands = 0
  nesting (command offset source ws cs) = max (words_nesting ws) (nesting cs)

  pub words_nesting : Words → ℕ
  words_nesting no_words = 0
  words_nesting (word w ws) = max (word_nesting w) (words_nesting ws)

  pub word_nesting : Word → ℕ
  word_nesting (word_of expands ps) = parts_nesting ps

  pub parts_nesting : Parts → ℕ
  parts_nesting no_parts = 0
  parts_nesting (part p ps) = max (part_nesting p) (parts_nesting ps)

  pub part_nesting : Part → ℕ
  part_nesting (literal t) = 0
  part_nesting (braced t) = 0
  part_nesting (backslash t) = 0
  part_nesting (variable name) = 0
  part_nesting (indexed name ps) = suc (parts_nesting ps)
  part_nesting (bracket s) = suc (nesting s)
