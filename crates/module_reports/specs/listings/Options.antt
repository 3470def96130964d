-- The options of `avail` and `list`, and the texts behind them (module(1)).
use Rattle.std.specs.Prelude.{true, false, List, [], ◌∷◌, if◌then◌else◌, Result, Ok, Err}
use Rattle.message.specs.Messages.{Text}
use Rattle.module_words.specs.subcommands.Meanings.{is_option}
use Rattle.module_words.specs.subcommands.Options.{by_option, is_end, option_named}
use Rattle.module_words.specs.declared.subcommands.options.CommandOption.{CommandOption}
use Rattle.module_words.specs.declared.subcommands.options.CommandOption.TheVariants as options
use Rattle.module_words.specs.declared.subcommands.table.Subcommand.{Subcommand}
use Rattle.module_reports.specs.listings.Faults.{ListingReason, no_option}
use Rattle.module_reports.specs.declared.listings.options.Options.{Options}
use Rattle.module_reports.specs.declared.listings.options.Versions.TheVariants.{Every, Default, Latest}

-- what is asked for without options
abbrev pub no_options : Options
no_options = record { lines = false; versions = Every; within = false; any_case = false }

-- the same with an option of a report; the other options are none of its own
abbrev pub with_option : CommandOption → Options → Options
with_option options.Lines o = record o { lines = true }
with_option options.Default o = record o { versions = Default }
with_option options.Latest o = record o { versions = Latest }
with_option options.Within o = record o { within = true }
with_option options.AnyCase o = record o { any_case = true }
with_option other o = o

-- options, with the texts behind them
abbrev pub Words : Type 0
Words = Options × List Text

-- The options of a report, and the texts behind them. Options stand first, and `--` ends them; or an option that the
-- subcommand doesn't have.
abbrev pub words_of : Subcommand → Options → List Text → Result Words Text
words_of subcommand o [] = Ok (o, [])
words_of subcommand o (word ∷ words) =
    if is_end word then Ok (o, words)
    else by_option (option_named subcommand word) (λ option. words_of subcommand (with_option option o) words)
    (if is_option word then Err word else Ok (o, word ∷ words))

-- the same, where such an option is the reason why there is no report
abbrev pub refused_by : (Text → ListingReason) → Result Words Text → Result Words ListingReason
refused_by reason (Ok words) = Ok words
refused_by reason (Err word) = Err (reason word)

-- the options and the texts of a report, of `avail` or `list`
abbrev pub report_words : Subcommand → List Text → Result Words ListingReason
report_words subcommand words = refused_by (no_option subcommand) (words_of subcommand no_options words)
