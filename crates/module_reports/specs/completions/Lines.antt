-- A line that is typed (own): the words of a command, up to the cursor.
use Rattle.std.specs.Prelude.{ℕ, ◌==◌, List, [], ◌∷◌, Option, Some, None}
use Rattle.std.specs.List.{flat_map, slice_split}
use Rattle.std.specs.Option.{option_map}
use Rattle.message.specs.Messages.{Text}
use Rattle.module_reports.specs.declared.completions.place.Caller.{Caller}
use Rattle.module_reports.specs.completions.Places.{caller_named}
use Rattle.module_reports.specs.completions.Texts.{filled}

-- what stands between the occurrences of a byte
abbrev pub pieces_at : ℕ → Text → List Text
pieces_at byte text = slice_split (λ b. b == byte) text

-- what stands between the blanks and the tabulators of a line
abbrev pub pieces : Text → List Text
pieces line = flat_map (pieces_at 9) (pieces_at 32 line)

-- a function, with the words behind its name and the last one
abbrev pub Command : Type 0
Command = Caller × (List Text × Text)

-- the command of these words, the last one apart, if the first names a function
abbrev pub command_of : List Text → Text → Option Command
command_of [] word = None
command_of (name ∷ words) word = option_map (λ caller. (caller, (words, word))) (caller_named name)

-- the last of some texts, if there is one, and the others
abbrev pub last_of : List Text → Option Text
last_of [] = None
last_of (text ∷ []) = Some text
last_of (text ∷ next ∷ texts) = last_of (next ∷ texts)

abbrev pub others_of : List Text → List Text
others_of [] = []
others_of (text ∷ []) = []
others_of (text ∷ next ∷ texts) = text ∷ others_of (next ∷ texts)

-- the command of these pieces before the last one
abbrev pub command_before : List Text → Option Text → Option Command
command_before first None = None
command_before first (Some word) = command_of (filled first) word

-- The command of a line, if it calls a function. The last piece is its last word, also if it is empty, and of the
-- others those that aren't are the words before.
abbrev pub read_line : Text → Option Command
read_line line = command_before (others_of (pieces line)) (last_of (pieces line))
