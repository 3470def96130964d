-- The words of the subcommand that forgets modules (module(1), forget).
use Rattle.std.specs.Prelude.{Bool, true, false, List, [], ◌∷◌, find, map, string_bytes, if◌then◌else◌, Option, Some, None}
use Rattle.std.specs.Prelude.{Result, Ok, Err}
use Rattle.message.specs.Messages.{Text}
use Rattle.module_words.specs.subcommands.Meanings.{is_option, no_option}
use Rattle.module_words.specs.subcommands.Options.{option_named}
use Rattle.module_words.specs.declared.subcommands.options.CommandOption.{CommandOption}
use Rattle.module_words.specs.declared.subcommands.options.CommandOption.TheVariants as options
use Rattle.module_words.specs.declared.subcommands.table.Subcommand.TheVariants.{Forget}
use Rattle.module_words.specs.declared.function.forgotten.ForgottenNames.{ForgottenNames}
use Rattle.module_words.specs.function.Faults.{FunctionReason, bad_arguments, means_nothing}

-- whether settings stay, and the names
abbrev pub Named : Type 0
Named = Bool × List Text

abbrev pub forgotten_view : ForgottenNames → Named
forgotten_view f = (f.settings_stay, map string_bytes f.names.now)

-- the option is the one by which settings stay
abbrev pub is_of_staying : Option CommandOption → Bool
is_of_staying (Some options.SettingsStay) = true
is_of_staying other = false

abbrev pub is_staying : Text → Bool
is_staying word = is_of_staying (option_named Forget word)

-- the words as names, or the first option among them
abbrev pub unless_option : Option Text → Named → Result Named FunctionReason
unless_option (Some word) named = Err (means_nothing (no_option word))
unless_option None named = Ok named

abbrev pub names_alone : Bool → List Text → Result Named FunctionReason
names_alone settings_stay [] = Err bad_arguments
names_alone settings_stay (word ∷ words) = unless_option (find is_option (word ∷ words)) (settings_stay, word ∷ words)

-- The names, of which there is at least one, and whether settings stay: by the option, which stands first.
abbrev pub forgotten_names : List Text → Result Named FunctionReason
forgotten_names [] = Err bad_arguments
forgotten_names (word ∷ words) = if is_staying word then names_alone true words else names_alone false (word ∷ words)
