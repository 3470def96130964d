-- The options of `use` and `unuse`, and the words behind them (module(1)).
use Rattle.std.specs.Prelude.{List, [], ◌∷◌, if◌then◌else◌, Result, Ok, Err}
use Rattle.message.specs.Messages.{Text}
use Rattle.envstate.specs.declared.paths.adding.End.{End}
use Rattle.envstate.specs.declared.paths.adding.End.TheVariants.{Front, Back}
use Rattle.module_words.specs.subcommands.Meanings.{is_option, no_option}
use Rattle.module_words.specs.subcommands.Options.{by_option, is_end, option_named}
use Rattle.module_words.specs.declared.subcommands.options.CommandOption.{CommandOption}
use Rattle.module_words.specs.declared.subcommands.options.CommandOption.TheVariants as options
use Rattle.module_words.specs.declared.subcommands.table.Subcommand.TheVariants.{Use}
use Rattle.module_words.specs.function.Faults.{FunctionReason, bad_arguments, means_nothing}

-- the end at which an option of `use` puts directories; the other options are none of its own
abbrev pub end_by : CommandOption → End → End
end_by options.Behind end = Back
end_by options.InFront end = Front
end_by other end = end

-- the words, if there are some
abbrev pub some_words : List Text → Result (List Text) FunctionReason
some_words [] = Err bad_arguments
some_words (word ∷ words) = Ok (word ∷ words)

-- words for an end of MODULEPATH
abbrev pub for_end : End → Result (List Text) FunctionReason → Result (End × List Text) FunctionReason
for_end end (Ok words) = Ok (end, words)
for_end end (Err reason) = Err reason

-- words that are no option of the function
abbrev pub without_option : {X : Type 0} → Text → X → Result X FunctionReason
without_option word words = if is_option word then Err (means_nothing (no_option word)) else Ok words

-- The end of MODULEPATH and the words for it. Options stand first, the last of them counts, and `--` ends them.
abbrev pub words_to_use : End → List Text → Result (End × List Text) FunctionReason
words_to_use end [] = Err bad_arguments
words_to_use end (word ∷ words) =
    if is_end word then for_end end (some_words words)
    else by_option (option_named Use word) (λ option. words_to_use (end_by option end) words)
    (without_option word (end, word ∷ words))

-- The words of `unuse`, which has no option.
abbrev pub words_to_unuse : List Text → Result (List Text) FunctionReason
words_to_unuse [] = Err bad_arguments
words_to_unuse (word ∷ words) =
    if is_end word then some_words words else without_option word (word ∷ words)
