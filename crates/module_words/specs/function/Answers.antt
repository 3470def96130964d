-- What a command of the function `module` answers, by the environment, the working directory and its words (module(1)).
use Rattle.std.specs.Prelude.{Bool, not, List, [], ◌∷◌, codes, bytes_eq, length, nat_eq, if◌then◌else◌, Option, Some}
use Rattle.std.specs.Prelude.{None, Result, Ok, Err}
use Rattle.std.specs.List.{list_any}
use Rattle.message.specs.Messages.{Text}
use Rattle.modulename.specs.ModuleName.{means}
use Rattle.envvars.specs.Environment.{Environment, lookup}
use Rattle.envstate.specs.declared.paths.adding.End.{End}
use Rattle.envstate.specs.declared.paths.adding.End.TheVariants.{Front}
use Rattle.envstate.specs.loaded_list.Loaded.{Entry, loaded_in}
use Rattle.shelltext.specs.declared.shell.Shell.{Shell}
use Rattle.shelltext.specs.Shells.{shell_named}
use Rattle.module_words.specs.modulepath.Edits.{unused_text, used_text, with_path}
use Rattle.module_words.specs.modulepath.Faults.{PathReason}
use Rattle.module_words.specs.modulepath.ModulePaths.{modulepath}
use Rattle.module_words.specs.modulepath.Words.{each, holdable, named}
use Rattle.module_words.specs.declared.subcommands.table.Subcommand.{Subcommand}
use Rattle.module_words.specs.declared.subcommands.table.Subcommand.TheVariants as subcommands
use Rattle.module_words.specs.subcommands.Meanings.{WordReason, meaning}
use Rattle.module_words.specs.function.Faults.{FunctionReason, inconsistent, bad_arguments, unknown_shell, means_nothing}
use Rattle.module_words.specs.function.Faults.{not_here, no_path}
use Rattle.module_words.specs.function.Options.{words_to_unuse, words_to_use}

-- what a command answers: of the environment that the shell has, the one that it is to have, with the directories that
-- are searched from then on; or yes or no
pub data Answer : Type 0 where
  makes : (old new : Environment) → (added : List Text) → Answer
  truth : Bool → Answer

abbrev pub Answered : Type 0
Answered = Result Answer FunctionReason

-- the environment in which MODULEPATH is this text, and nothing else differs, with these directories
abbrev pub made : Environment → List Text → Result (Option Text) PathReason → Answered
made e added (Ok text) = Ok (makes e (with_path e text) added)
made e added (Err reason) = Err (no_path reason)

-- MODULEPATH with these directories at that end, or without these
abbrev pub with_these : Option Text → Environment → End → Result (List Text) PathReason → Answered
with_these working e end (Ok paths) = made e paths (used_text working end paths (lookup e modulepath))
with_these working e end (Err reason) = Err (no_path reason)

abbrev pub without_these : Option Text → Environment → Result (List Text) PathReason → Answered
without_these working e (Ok paths) = made e [] (unused_text working paths (lookup e modulepath))
without_these working e (Err reason) = Err (no_path reason)

-- what `use` makes with words for an end of MODULEPATH
abbrev pub used_at : Option Text → Environment → Result (End × List Text) FunctionReason → Answered
used_at working e (Ok (end, words)) = with_these working e end (each (holdable working) words)
used_at working e (Err reason) = Err reason

-- `use`: the directories of its words are searched first, or last
abbrev pub used : Option Text → Environment → List Text → Answered
used working e words = used_at working e (words_to_use Front words)

-- what `unuse` makes with its words
abbrev pub unused_by : Option Text → Environment → Result (List Text) FunctionReason → Answered
unused_by working e (Ok words) = without_these working e (each (named working) words)
unused_by working e (Err reason) = Err reason

-- `unuse`: the directories of its words are searched no more
abbrev pub unused : Option Text → Environment → List Text → Answered
unused working e words = unused_by working e (words_to_unuse words)

-- one of the names means one of the modules
abbrev pub mean_one : List Text → List Entry → Bool
mean_one names entries = list_any (λ n. list_any (λ x. means n x.name) entries) names

-- the same; without names, there is a module
abbrev pub is_one_loaded : List Text → List Entry → Bool
is_one_loaded names entries =
    if nat_eq (length names) 0 then not (nat_eq (length entries) 0) else mean_one names entries

-- `is-loaded`: the same of the modules that are loaded, if these are consistent
abbrev pub loaded_among : Option (List Entry) → List Text → Answered
loaded_among None names = Err inconsistent
loaded_among (Some entries) names = Ok (truth (is_one_loaded names entries))

abbrev pub answer_of_loaded : Environment → List Text → Answered
answer_of_loaded e names = loaded_among (loaded_in e) names

-- the subcommand that a word means
abbrev pub meant : Result Subcommand WordReason → Result Subcommand FunctionReason
meant (Ok subcommand) = Ok subcommand
meant (Err reason) = Err (means_nothing reason)

abbrev pub meaning_of : Text → Result Subcommand FunctionReason
meaning_of word = meant (meaning word)

-- What a subcommand with these words answers; other subcommands are another crate's.
abbrev pub answer_of : Option Text → Environment → Subcommand → List Text → Answered
answer_of working e subcommands.Use words = used working e words
answer_of working e subcommands.Unuse words = unused working e words
answer_of working e subcommands.IsLoaded words = answer_of_loaded e words
answer_of working e other words = Err (not_here other)
