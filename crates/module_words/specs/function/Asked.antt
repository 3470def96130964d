-- What the words of the functions `module` and `ml` ask for (module(1), SYNOPSIS and "The short form ml").
use Rattle.std.specs.Prelude.{Bool, not, ◌==◌, ◌||◌, ◌&&◌, List, [], ◌∷◌, codes, bytes_eq, filter, map}
use Rattle.std.specs.Prelude.{if◌then◌else◌, Result, Ok, Err}
use Rattle.std.specs.List.{after_first, list_any}
use Rattle.message.specs.Messages.{Text}
use Rattle.envvars.specs.Texts.{texts_in}
use Rattle.module_words.specs.subcommands.Meanings.{is_named, is_option}
use Rattle.module_words.specs.subcommands.Subcommands.{rows}
use Rattle.module_words.specs.declared.subcommands.table.Subcommand.{Subcommand}
use Rattle.module_words.specs.declared.subcommands.table.Subcommand.TheVariants.{Help, List as ListLoaded, Load, Unload}
use Rattle.module_words.specs.function.Answers.{meaning_of}
use Rattle.module_words.specs.function.Faults.{FunctionReason}
use Rattle.module_words.specs.declared.function.asked.Asked as code
use Rattle.module_words.specs.declared.function.asked.Asked.TheVariants as asks
use Rattle.module_words.specs.declared.function.asked.AskedCommand.{AskedCommand}

-- a subcommand with its words
abbrev pub Command : Type 0
Command = Subcommand × List Text

-- what is asked for: one command, or an unload and then a load
pub data Asked : Type 0 where
  one : Command → Asked
  both : (unloads loads : Command) → Asked

-- what the values of the code stand for
abbrev pub command_view : AskedCommand → Command
command_view c = (c.subcommand, texts_in c.words)

abbrev pub asked_view : code.Asked → Asked
asked_view (asks.One c) = one (command_view c)
asked_view (asks.Exchange unloads loads) = both (command_view unloads) (command_view loads)

-- the option of a report
abbrev pub is_terse : Text → Bool
is_terse word = bytes_eq word (codes "-t") || bytes_eq word (codes "--terse")

-- the subcommand with these words, if there is one
abbrev pub with_words : List Text → Result Subcommand FunctionReason → Result Command FunctionReason
with_words words (Ok subcommand) = Ok (subcommand, words)
with_words words (Err reason) = Err reason

abbrev pub command_of : Text → List Text → Result Command FunctionReason
command_of word words = with_words words (meaning_of word)

-- the option before its subcommand, which is `list` if none follows
abbrev pub terse_command : List Text → Result Command FunctionReason
terse_command [] = Ok (ListLoaded, codes "-t" ∷ [])
terse_command (word ∷ words) = command_of word (codes "-t" ∷ words)

-- the words of `module`: without any it is `help`
abbrev pub asked_of_module : List Text → Result Command FunctionReason
asked_of_module [] = Ok (Help, [])
asked_of_module (word ∷ words) = if is_terse word then terse_command words else command_of word words

-- `ml` hands a first word on to `module`: a whole name of a subcommand, the option of a report, and three short names
abbrev pub is_of_module : Text → Bool
is_of_module word =
    bytes_eq word (codes "av") || (bytes_eq word (codes "li") || (bytes_eq word (codes "sw")
    || (is_terse word || list_any (is_named word) rows)))

-- what is behind the first hyphen
abbrev pub behind_hyphen : Text → Text
behind_hyphen word = after_first (λ b. b == 45) word

-- a word of `ml` that unloads: it begins with a hyphen, and with no other behind that
abbrev pub unloads : Text → Bool
unloads word = is_option word && not (is_option (behind_hyphen word))

-- the names that words of `ml` unload, and the words of its load
abbrev pub unloaded_names : List Text → List Text
unloaded_names words = map behind_hyphen (filter unloads words)

abbrev pub loaded_words : List Text → List Text
loaded_words words = filter (λ word. not (unloads word)) words

-- an unload, a load, or both
abbrev pub exchange : List Text → List Text → Asked
exchange [] loads = one (Load, loads)
exchange (name ∷ names) [] = one (Unload, name ∷ names)
exchange (name ∷ names) (word ∷ words) = both (Unload, name ∷ names) (Load, word ∷ words)

abbrev pub as_one : Result Command FunctionReason → Result Asked FunctionReason
as_one (Ok command) = Ok (one command)
as_one (Err reason) = Err reason

-- the words of `ml`: without any it is `list`
abbrev pub asked_of_ml : List Text → Result Asked FunctionReason
asked_of_ml [] = Ok (one (ListLoaded, []))
asked_of_ml (word ∷ words) =
    if is_of_module word then as_one (asked_of_module (word ∷ words))
    else Ok (exchange (unloaded_names (word ∷ words)) (loaded_words (word ∷ words)))

-- What the words ask for. Behind a first word `ml` stand those of the function `ml`.
abbrev pub asked_for : List Text → Result Asked FunctionReason
asked_for [] = as_one (asked_of_module [])
asked_for (word ∷ words) =
    if bytes_eq word (codes "ml") then asked_of_ml words else as_one (asked_of_module (word ∷ words))
