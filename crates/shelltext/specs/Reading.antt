-- How shells read lines that set and unset variables; no other line is read here. The sh family reads by POSIX XCU
-- 2.2.1 (a backslash outside quotes) and 2.2.2 (single quotes), the csh family by csh(1), Lexical structure and History
-- substitutions, and fish by fish-language(1), Quotes.
use Rattle.std.specs.Prelude.{◌≡◌, ◌<◌, length, ℕ, List, [], ◌∷◌, ◌++◌, Bool, not, ◌||◌, true, ◌==◌, Option, Some, None}
use Rattle.std.specs.Prelude.{codes}
use Rattle.std.specs.List.{flat_map, list_all}
use Rattle.envvars.specs.Texts.{Text}
use Rattle.envvars.specs.Names.{is_variable_name}
use Rattle.envvars.specs.Environment.{Environment}
use Rattle.envvars.specs.Changes.{NewValue, AreChanges, applied}
use Rattle.shelltext.specs.declared.shell.Shell.{Shell}
use Rattle.shelltext.specs.declared.family.Family.{Family}
use Rattle.shelltext.specs.declared.family.Family.TheVariants.{Sh, Csh, Fish}
use Rattle.shelltext.specs.Shells.{family_of}

-- a byte that means something inside quotes, and is written with a backslash: the single quote, in csh the exclamation
-- mark too, and in fish the backslash
abbrev pub is_special : Family → ℕ → Bool
is_special Sh b = b == 39
is_special Csh b = b == 39 || b == 33
is_special Fish b = b == 39 || b == 92

-- a byte that no text can give to a variable: NUL, and in csh a newline
abbrev pub is_unsayable : Family → ℕ → Bool
is_unsayable Sh b = b == 0
is_unsayable Csh b = b == 0 || b == 10
is_unsayable Fish b = b == 0

-- a byte that stands for itself inside quotes
abbrev pub is_literal : Family → ℕ → Bool
is_literal family b = not (is_special family b || is_unsayable family b)

-- a part of a value's text: literal bytes, or a byte with a backslash before it
pub data ValuePart : Type 0 where
  literal : Text → ValuePart
  special : ℕ → ValuePart

-- the part can be written for the family: its literal bytes are literal there, or its byte is special there
abbrev pub IsPart : Family → ValuePart → Type 0
IsPart family (literal bytes) = list_all (is_literal family) bytes ≡ true
IsPart family (special b) = is_special family b ≡ true

-- each of these parts can be written for the family
abbrev pub AreParts : Family → List ValuePart → Type 0
AreParts family [] = Unit {0}
AreParts family (part ∷ parts) = IsPart family part × AreParts family parts

-- the value of a part
abbrev pub part_value : ValuePart → Text
part_value (literal bytes) = bytes
part_value (special b) = b ∷ []

-- how a part is written in sh and csh: literal bytes between single quotes, another byte after a backslash and outside
-- of quotes
abbrev pub part_text : ValuePart → Text
part_text (literal bytes) = 39 ∷ (bytes ++ 39 ∷ [])
part_text (special b) = 92 ∷ b ∷ []

-- how a part is written inside the quotes of a value in fish: literal bytes as they are, another byte after a backslash
abbrev pub inner_text : ValuePart → Text
inner_text (literal bytes) = bytes
inner_text (special b) = 92 ∷ b ∷ []

-- the text of a value that consists of these parts, one after the other; in fish all are in one pair of single quotes
abbrev pub value_text : Family → List ValuePart → Text
value_text Sh parts = flat_map part_text parts
value_text Csh parts = flat_map part_text parts
value_text Fish parts = 39 ∷ (flat_map inner_text parts ++ 39 ∷ [])

-- the line that sets and exports a variable, where its value is written as this text
abbrev pub set_line : Family → Text → Text → Text
set_line Sh name text = name ++ 61 ∷ (text ++ (codes "; export " ++ (name ++ 59 ∷ 10 ∷ [])))
set_line Csh name text = codes "setenv " ++ (name ++ 32 ∷ (text ++ 59 ∷ 10 ∷ []))
set_line Fish name text = codes "set -xg " ++ (name ++ 32 ∷ (text ++ 59 ∷ 10 ∷ []))

-- the line that unsets a variable
abbrev pub unset_line : Family → Text → Text
unset_line Sh name = codes "unset " ++ (name ++ 59 ∷ 10 ∷ [])
unset_line Csh name = codes "unsetenv " ++ (name ++ 59 ∷ 10 ∷ [])
unset_line Fish name = codes "set -e " ++ (name ++ 59 ∷ 10 ∷ [])

-- the shells of the family read the text as the value: it consists of one or more parts that have this value
pub record Spells (family : Family) (text value : Text) : Type 0 where
  pub parts : List ValuePart
  pub some : 0 < length parts
  pub proper : AreParts family parts
  pub spelled : value_text family parts ≡ text
  pub meant : flat_map part_value parts ≡ value

-- a line that says the change
abbrev pub LineSays : Family → Text → Text → Option Text → Type 0
LineSays family line name None = line ≡ unset_line family name
LineSays family line name (Some value) = (text : Text) × Spells family text value
    × (line ≡ set_line family name text)

-- The text is lines that say these changes, in order, each of a variable's name.
abbrev pub LinesSay : Family → Text → List NewValue → Type 0
LinesSay family text [] = text ≡ []
LinesSay family text (s ∷ ss) =
    (line : Text) × (rest : Text) × (is_variable_name s.0 ≡ true) × LineSays family line s.0 s.1
    × LinesSay family rest ss
    × (text ≡ line ++ rest)

-- The shell reads the text as exactly these changes, in order.
abbrev pub TextSays : Shell → Text → List NewValue → Type 0
TextSays shell text changes = LinesSay (family_of shell) text changes

-- a shell that runs the text turns the old environment into the new one: it makes the changes one after the other
pub record TextMakes (shell : Shell) (text : Text) (old new : Environment) : Type 0 where
  pub changes : List NewValue
  pub says : TextSays shell text changes
  pub made : new ≡ applied changes old

-- The shell reads the text as the difference of two environments, exactly: a change for each variable that differs,
-- once, in the order of bytes, and nothing else.
pub record SaysDifference (shell : Shell) (text : Text) (old new : Environment) : Type 0 where
  pub changes : List NewValue
  pub exact : AreChanges old new changes
  pub says : TextSays shell text changes

-- two lists of changes that one text says are one list
abbrev pub OneReading : Type 0
OneReading =
    (shell : Shell) (text : Text) (ss rs : List NewValue) → TextSays shell text ss → TextSays shell text rs → ss ≡ rs

-- a text turns an environment into one environment
abbrev pub OneEffect : Type 0
OneEffect =
    (shell : Shell) (text : Text) (old new other : Environment) → TextMakes shell text old new
    → TextMakes shell text old other → new ≡ other

-- a text that says the difference of two environments turns the first into the second
abbrev pub DifferenceMakes : Type 0
DifferenceMakes =
    (shell : Shell) (text : Text) (old new : Environment) → SaysDifference shell text old new
    → TextMakes shell text old new
