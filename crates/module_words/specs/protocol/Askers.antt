-- Who runs the program `module`, by its first argument (docs/DECISIONS.md, "The functions and the program `module`").
use Rattle.std.specs.Prelude.{ℕ, Bool, ◌==◌, bytes_eq, if◌then◌else◌, Option, Some, None, []}
use Rattle.std.specs.List.{after_first, before_first, list_any}
use Rattle.message.specs.Messages.{Text}
use Rattle.envstate.specs.paths.Counters.{counter_of}
use Rattle.shelltext.specs.declared.shell.Shell.{Shell}
use Rattle.shelltext.specs.declared.shell.Shell.TheVariants.{Fish}
use Rattle.shelltext.specs.Shells.{shell_named}
use Rattle.module_words.specs.declared.protocol.asker.Asker.{Asker}
use Rattle.module_words.specs.declared.protocol.asker.Asker.TheVariants as askers
use Rattle.module_words.specs.declared.protocol.asker.Screen.{Screen}

-- a colon
abbrev pub is_colon : ℕ → Bool
is_colon b = b == 58

-- the size, if both numbers are known
abbrev pub screen_of : Option ℕ → Option ℕ → Option Screen
screen_of None columns = None
screen_of (Some lines) None = None
screen_of (Some lines) (Some columns) = Some (record { lines = lines; columns = columns })

-- the size in `LINES:COLUMNS`, each a number from 1 on
abbrev pub screen_in : Text → Option Screen
screen_in text =
    if list_any is_colon text
    then screen_of (counter_of (before_first is_colon text)) (counter_of (after_first is_colon text)) else None

-- a function, by what stands behind the colon of the first argument: nothing, if it can't hand its standard output on
abbrev pub function_with : Text → Asker
function_with text = if bytes_eq text [] then askers.Unhanding else askers.Handing (screen_in text)

-- a shell with who asks
abbrev pub of_shell : Option Shell → Asker → Option (Shell × Asker)
of_shell None asker = None
of_shell (Some shell) asker = Some (shell, asker)

abbrev pub asked_from : Text → Asker → Option (Shell × Asker)
asked_from name asker = of_shell (shell_named name) asker

-- The shell and who asks: a script by the name of the shell alone, a function by a colon behind it.
abbrev pub asker_in : Text → Option (Shell × Asker)
asker_in word =
    if list_any is_colon word
    then asked_from (before_first is_colon word) (function_with (after_first is_colon word))
    else asked_from word askers.Script

-- the status of a refusal: in fish 1 says that the program wasn't started
abbrev pub refusal_status : Shell → Asker → ℕ
refusal_status Fish (askers.Handing screen) = 111
refusal_status shell asker = 1
