-- The text of a command in a script (own): from its first byte up to the next command, or else the end of the braces
-- around it.
use Rattle.std.specs.Prelude.{ℕ, false, length, Option, Some, None, Result, Ok, Err}
use Rattle.envvars.specs.Texts.{Text}
use Rattle.tcltext.specs.chars.Braces.{braced_at}
use Rattle.tcltext.specs.declared.chars.fault.TextFault.{TextFault}
use Rattle.tcltext.specs.script.Pieces.{between}
use Rattle.tcltext.specs.script.Text.{script_of}
use Rattle.tcltext.specs.script.Tree.{Commands, no_commands, command}

-- what stands before the brace that closes, where one does
abbrev pub before_close : Text → Option (Text × Text) → Text
before_close rest None = rest
before_close rest (Some (inside, after)) = inside

-- what stands from an offset of a text on, up to the end of the braces around it
abbrev pub rest_of_braces : Text → ℕ → Text
rest_of_braces text offset =
    let rest = between text offset (length text) in before_close rest (braced_at false 0 rest)

-- where the first command of a script of this length ends: at the second, or else with the script
abbrev pub first_end : ℕ → Commands → ℕ
first_end len no_commands = len
first_end len (command offset source words no_commands) = len
first_end len (command offset source words (command second source2 words2 more)) = second

-- where the first command of a text ends; with the text where that is no script
abbrev pub first_end_by : ℕ → Result Commands TextFault → ℕ
first_end_by len (Ok script) = first_end len script
first_end_by len (Err fault) = len

abbrev pub first_end_in : Text → ℕ
first_end_in text = first_end_by (length text) (script_of text)

-- the command of a text at an offset, with all that stands behind it up to the next one
abbrev pub command_at : Text → ℕ → Text
command_at text offset = let rest = rest_of_braces text offset in between rest 0 (first_end_in rest)
