-- The words of the subcommands that load, unload and switch (module(1), "Automated module handling").
use Rattle.std.specs.Prelude.{Bool, true, false, ◌&&◌, List, [], ◌∷◌, codes, bytes_eq, find, map, string_bytes}
use Rattle.std.specs.Prelude.{if◌then◌else◌, Option, Some, None, Result, Ok, Err}
use Rattle.message.specs.Messages.{Text}
use Rattle.module_words.specs.subcommands.Meanings.{is_option, no_option}
use Rattle.module_words.specs.subcommands.Options.{option_named}
use Rattle.module_words.specs.declared.subcommands.options.CommandOption.{CommandOption}
use Rattle.module_words.specs.declared.subcommands.options.CommandOption.TheVariants as options
use Rattle.module_words.specs.declared.subcommands.table.Subcommand.{Subcommand}
use Rattle.module_words.specs.declared.subcommands.table.Subcommand.TheVariants.{Load, Unload}
use Rattle.module_words.specs.declared.function.moved.MovedNames.{MovedNames}
use Rattle.module_words.specs.function.Faults.{FunctionReason, means_nothing}

-- whether they are automated, and the names
abbrev pub Moved : Type 0
Moved = Bool × List Text

abbrev pub moved_view : MovedNames → Moved
moved_view m = (m.is_automatic, map string_bytes m.names.now)

-- the value is `1`
abbrev pub is_one : Option Text → Bool
is_one None = false
is_one (Some value) = bytes_eq value (codes "1")

-- the user has each load and unload automated
abbrev pub is_set : (Text → Option Text) → Bool
is_set value = is_one (value (codes "MODULES_AUTO_HANDLING"))

-- a load and an unload can be automated
abbrev pub can_be_automatic : Subcommand → Bool
can_be_automatic Load = true
can_be_automatic Unload = true
can_be_automatic other = false

-- the option is the one that automates
abbrev pub is_automatic : Option CommandOption → Bool
is_automatic (Some options.Automatic) = true
is_automatic other = false

abbrev pub is_automating : Subcommand → Text → Bool
is_automating subcommand word = is_automatic (option_named subcommand word)

-- the words as names, or the first option among them
abbrev pub unless_option : Option Text → Moved → Result Moved FunctionReason
unless_option (Some word) moved = Err (means_nothing (no_option word))
unless_option None moved = Ok moved

abbrev pub names_alone : Bool → List Text → Result Moved FunctionReason
names_alone automatic words = unless_option (find is_option words) (automatic, words)

-- without the option
abbrev pub as_set : Subcommand → (Text → Option Text) → List Text → Result Moved FunctionReason
as_set subcommand value words = names_alone (can_be_automatic subcommand && is_set value) words

-- The names, and whether they are automated: by the option, which stands first, or by the user's variable.
abbrev pub moved_names : Subcommand → (Text → Option Text) → List Text → Result Moved FunctionReason
moved_names subcommand value [] = as_set subcommand value []
moved_names subcommand value (word ∷ words) =
    if is_automating subcommand word then names_alone true words else as_set subcommand value (word ∷ words)
