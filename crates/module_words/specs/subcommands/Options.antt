-- The options of the subcommands, with their names (module(1)).
use Rattle.std.specs.Prelude.{Bool, List, [], ◌∷◌, codes, bytes_eq, find, Option, Some, None}
use Rattle.message.specs.Messages.{Text}
use Rattle.module_words.specs.declared.subcommands.options.CommandOption.{CommandOption}
use Rattle.module_words.specs.declared.subcommands.options.CommandOption.TheVariants as options
use Rattle.module_words.specs.declared.subcommands.table.Subcommand.{Subcommand}
use Rattle.module_words.specs.declared.subcommands.table.Subcommand.TheVariants as subcommands

-- a name, and the option that it is a name of
abbrev pub OptionRow : Type 0
OptionRow = Text × CommandOption

-- the options of a subcommand under all their names; the others have none
unfoldable pub options_of : Subcommand → List OptionRow
options_of subcommands.Load = (codes "--auto", options.Automatic) ∷ []
options_of subcommands.Unload = (codes "--auto", options.Automatic) ∷ []
options_of subcommands.Forget = (codes "--settings-stay", options.SettingsStay) ∷ []
options_of subcommands.List = (codes "--terse", options.Lines) ∷ (codes "-t", options.Lines) ∷ []
options_of subcommands.Avail =
    (codes "--contains", options.Within)
    ∷ (codes "--default", options.Default)
    ∷ (codes "--icase", options.AnyCase)
    ∷ (codes "--latest", options.Latest)
    ∷ (codes "--terse", options.Lines)
    ∷ (codes "-C", options.Within)
    ∷ (codes "-L", options.Latest)
    ∷ (codes "-d", options.Default)
    ∷ (codes "-i", options.AnyCase)
    ∷ (codes "-t", options.Lines)
    ∷ []
options_of subcommands.Use =
    (codes "--append", options.Behind)
    ∷ (codes "--prepend", options.InFront)
    ∷ (codes "-a", options.Behind)
    ∷ (codes "-p", options.InFront)
    ∷ []
options_of other = []

-- the word ends the options
abbrev pub is_end : Text → Bool
is_end word = bytes_eq word (codes "--")

-- the word is the name
abbrev pub is_option_name : Text → OptionRow → Bool
is_option_name word row = bytes_eq word row.0

-- the option of a row, if there is one
abbrev pub option_in : Option OptionRow → Option CommandOption
option_in (Some row) = Some row.1
option_in None = None

-- the option of a subcommand that a word names, if it names one
abbrev pub option_named : Subcommand → Text → Option CommandOption
option_named subcommand word = option_in (find (is_option_name word) (options_of subcommand))

-- what follows from an option, or else that
abbrev pub by_option : {X : Type 0} → Option CommandOption → (CommandOption → X) → X → X
by_option (Some option) following other = following option
by_option None following other = other
