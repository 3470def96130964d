-- What is said of the place at which a modulefile failed (own): lines, each with its newline.
use Rattle.std.specs.Prelude.{ℕ, ◌==◌, nat_le, if◌then◌else◌, List, [], ◌∷◌, ◌++◌, length, take}
use Rattle.std.specs.Prelude.{map, codes, decimal, chars, string_bytes, vec_items}
use Rattle.std.specs.List.{before_first, flat_map}
use Rattle.std.specs.Str.{trim_end}
use Rattle.std.specs.Str.Lines.{lines}
use Rattle.terminal.specs.text.Shown as terminal
use Rattle.terminal.specs.text.Shown.{Text, shown_char}
use Rattle.module_explain.specs.declared.location.FileExplanation.{FileExplanation}

-- what a terminal shows of a text, and of a line of its own
abbrev pub shown : Text → Text
shown text = terminal.shown text

abbrev pub shown_line : Text → Text
shown_line line = shown line ++ codes "\n"

-- the lines of a message
abbrev pub message_lines : Text → Text
message_lines message = flat_map shown_line (lines message)

-- up to the first newline
abbrev pub up_to_newline : Text → Text
up_to_newline text = before_first (λ b. b == 10) text

-- without one semicolon at the end
abbrev pub without_semicolon : Text → Text
without_semicolon [] = []
without_semicolon (b ∷ []) = if b == 59 then [] else b ∷ []
without_semicolon (b ∷ c ∷ more) = b ∷ without_semicolon (c ∷ more)

-- the first line of a command, without the white space and one semicolon at its end
abbrev pub first_line : Text → Text
first_line command = trim_end (without_semicolon (trim_end (up_to_newline command)))

-- so many characters of a command are shown
abbrev pub most_shown : ℕ
most_shown = 60

-- what is shown of characters: the first of them, and three dots where there are more
abbrev pub front_text : ℕ → List ℕ → Text
front_text most cs =
    if nat_le (length cs) most then flat_map shown_char cs else flat_map shown_char (take most cs) ++ codes "..."

-- what is shown of a command
abbrev pub command_text : Text → Text
command_text command = front_text most_shown (chars (first_line command))

-- the module, its file, the line there and the command
abbrev pub file_text : FileExplanation → Text
file_text file = codes "  " ++ (shown (string_bytes file.module) ++ (codes " (" ++ shown (string_bytes file.path)))

abbrev pub line_text : ℕ → Text
line_text line = codes ", line " ++ decimal line

abbrev pub rest_text : FileExplanation → Text
rest_text file = codes "): " ++ (command_text (string_bytes file.command) ++ codes "\n")

abbrev pub place_line : FileExplanation → Text
place_line file = file_text file ++ (line_text file.line ++ rest_text file)

-- what a user at a terminal is told: what the file has said before, and the place
abbrev pub user_text : FileExplanation → Text
user_text file = flat_map message_lines (map string_bytes (vec_items file.messages)) ++ place_line file

-- what a log has: the file, and the line there
abbrev pub log_text : FileExplanation → Text
log_text file = codes "  in " ++ (string_bytes file.path ++ (line_text file.line ++ codes "\n"))
