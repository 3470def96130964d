-- What can stand at a place of a command of `module` or `ml` (module(1)).
use Rattle.std.specs.Prelude.{Bool, true, false, List, [], ◌∷◌, codes, bytes_eq, if◌then◌else◌, Option, Some, None}
use Rattle.std.specs.Prelude.{Result, Ok, Err}
use Rattle.message.specs.Messages.{Text}
use Rattle.module_words.specs.subcommands.Meanings.{WordReason, is_option, meaning}
use Rattle.module_words.specs.declared.subcommands.table.Subcommand.{Subcommand}
use Rattle.module_words.specs.declared.subcommands.table.Subcommand.TheVariants as subcommands
use Rattle.module_reports.specs.declared.completions.kind.NameKind.{NameKind}
use Rattle.module_reports.specs.declared.completions.kind.NameKind.TheVariants as kinds
use Rattle.module_reports.specs.declared.completions.place.Caller.{Caller}
use Rattle.module_reports.specs.declared.completions.place.Caller.TheVariants as callers

-- the function of this name, if one has it
abbrev pub caller_named : Text → Option Caller
caller_named name =
    if bytes_eq name (codes "module") then Some callers.Module
    else if bytes_eq name (codes "ml") then Some callers.Ml
    else None

-- What can stand first: a subcommand. For `ml` also a module that can be loaded, or behind a hyphen a loaded one.
abbrev pub kinds_first : Caller → Text → List NameKind
kinds_first callers.Module word = kinds.Subcommands ∷ []
kinds_first callers.Ml word =
    if is_option word then kinds.LoadedToUnload ∷ [] else kinds.Subcommands ∷ kinds.Available ∷ []

-- what can stand behind a word that is no subcommand: for `ml` it is a name
abbrev pub kinds_of_names : Caller → Text → List NameKind
kinds_of_names callers.Module word = []
kinds_of_names callers.Ml word = if is_option word then kinds.LoadedToUnload ∷ [] else kinds.Available ∷ []

-- what can stand behind a subcommand, no option: in the first place behind it, or in a later one
abbrev pub kinds_behind : Subcommand → Bool → List NameKind
kinds_behind subcommands.Load first = kinds.Available ∷ []
kinds_behind subcommands.Show first = kinds.Available ∷ []
kinds_behind subcommands.Whatis first = kinds.Available ∷ []
kinds_behind subcommands.Avail first = kinds.Available ∷ []
kinds_behind subcommands.Help first = kinds.Available ∷ []
kinds_behind subcommands.IsAvail first = kinds.Available ∷ []
kinds_behind subcommands.Unload first = kinds.Loaded ∷ []
kinds_behind subcommands.Forget first = kinds.Loaded ∷ []
kinds_behind subcommands.IsLoaded first = kinds.Loaded ∷ []
kinds_behind subcommands.List first = kinds.Loaded ∷ []
kinds_behind subcommands.Switch true = kinds.Loaded ∷ kinds.Available ∷ []
kinds_behind subcommands.Switch false = kinds.Available ∷ []
kinds_behind subcommands.Unuse first = kinds.Directories ∷ []
kinds_behind subcommands.Save true = kinds.Collections ∷ []
kinds_behind subcommands.Restore true = kinds.Collections ∷ []
kinds_behind subcommands.SaveShow true = kinds.Collections ∷ []
kinds_behind subcommands.SaveRemove true = kinds.Collections ∷ []
kinds_behind other first = []

-- there are none
abbrev pub are_none : List Text → Bool
are_none [] = true
are_none (word ∷ words) = false

-- what can stand behind a first word that means this, or no subcommand, and some others
abbrev pub kinds_after : Caller → Result Subcommand WordReason → List Text → Text → List NameKind
kinds_after caller (Ok subcommand) others word =
    if is_option word then kinds.Options subcommand ∷ [] else kinds_behind subcommand (are_none others)
kinds_after caller (Err reason) others word = kinds_of_names caller word

-- What can stand where a word is typed, behind these words of a command.
abbrev pub kinds_at : Caller → List Text → Text → List NameKind
kinds_at caller [] word = kinds_first caller word
kinds_at caller (command ∷ others) word = kinds_after caller (meaning command) others word
