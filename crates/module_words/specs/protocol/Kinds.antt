-- Which commands report something, and what their reports are like (module(1)).
use Rattle.std.specs.Prelude.{Bool, true, false, not, ◌||◌, List, [], ◌∷◌, if◌then◌else◌, Option, Some}
use Rattle.message.specs.Messages.{Text}
use Rattle.module_words.specs.subcommands.Meanings.{is_option}
use Rattle.module_words.specs.subcommands.Options.{is_end, option_named}
use Rattle.module_words.specs.subcommands.Subcommands.{report_of}
use Rattle.module_words.specs.declared.subcommands.options.CommandOption.{CommandOption}
use Rattle.module_words.specs.declared.subcommands.options.CommandOption.TheVariants as options
use Rattle.module_words.specs.declared.subcommands.table.Subcommand.{Subcommand}
use Rattle.module_words.specs.declared.protocol.place.ReportKind.{ReportKind}
use Rattle.module_words.specs.declared.protocol.place.ReportKind.TheVariants.{Columns, Lines}

-- the option asks for one name a line
abbrev pub is_lines : Option CommandOption → Bool
is_lines (Some options.Lines) = true
is_lines other = false

abbrev pub is_of_lines : Subcommand → Text → Bool
is_of_lines subcommand word = is_lines (option_named subcommand word)

-- options stand first, and `--` ends them
abbrev pub ends_options : Text → Bool
ends_options word = is_end word || not (is_option word)

-- one of the options asks for one name a line
abbrev pub asks_for_lines : Subcommand → List Text → Bool
asks_for_lines subcommand [] = false
asks_for_lines subcommand (word ∷ words) =
    if ends_options word then false else is_of_lines subcommand word || asks_for_lines subcommand words

-- names stand in columns, unless they are asked for one a line
abbrev pub kind_if : Option ReportKind → Bool → Option ReportKind
kind_if (Some Columns) true = Some Lines
kind_if kind lines = kind

-- What the report of a subcommand is like, if it makes one.
abbrev pub report_kind : Subcommand → List Text → Option ReportKind
report_kind subcommand words = kind_if (report_of subcommand words) (asks_for_lines subcommand words)
