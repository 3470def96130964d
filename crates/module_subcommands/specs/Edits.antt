-- `use`, `unuse` and `is-loaded` (module(1)).
use Rattle.std.specs.Prelude.{◌≡◌, ◌==◌, Bool, true, false, List, codes, string_bytes, Option, None, Ok, Err}
use Rattle.std.specs.Option.{option_map}
use Rattle.message.specs.Messages.{Text}
use Rattle.message.specs.Refusals.{about, numbered_text}
use Rattle.message.specs.declared.refusals.RefusalKind.TheVariants as kinds
use Rattle.envvars.specs.Environment.{lookup}
use Rattle.envvars.specs.Texts.{texts_in}
use Rattle.module_words.specs.declared.function.output.FunctionOutput.{FunctionOutput}
use Rattle.module_words.specs.declared.subcommands.table.Subcommand.TheVariants.{IsLoaded}
use Rattle.module_words.specs.function.Answers.{answer_of}
use Rattle.module_words.specs.function.Asked.{Command}
use Rattle.module_words.specs.function.Outputs.{GivesOutput}
use Rattle.module_subcommands.specs.Sites.{working_directory}
use Rattle.module_subcommands.specs.declared.asking.Asking.{Asking}
use Rattle.module_subcommands.specs.declared.refusal.Refusal.{Refusal}
use Rattle.module_subcommands.specs.declared.refusal.Refusal.TheVariants as refusals
use Rattle.module_subcommands.specs.declared.reply.Reply.{Reply}
use Rattle.module_subcommands.specs.declared.reply.Reply.TheVariants as replies

-- the working directory from which relative paths are taken
abbrev pub directory_of : Asking → Option Text
directory_of asking =
    working_directory (lookup asking.env (codes "PWD")) asking.site.is_at_pwd
    (option_map string_bytes asking.site.directory)

-- a MODULEPATH that is no text is refused (37)
abbrev pub RefusesText : Bool → Refusal → Type 0
RefusesText is_text (refusals.Numbered numbered) =
    (is_text ≡ false) × (numbered_text numbered ≡ about kinds.BadValue (codes "MODULEPATH"))
RefusesText is_text other = ⊥

-- the directories that are added, and the text for the shell
abbrev pub IsEdit : FunctionOutput → Reply → Type 0
IsEdit output (replies.Searched added text) =
    (texts_in added ≡ texts_in output.added) × (string_bytes text ≡ string_bytes output.text)
IsEdit output other = ⊥

-- What `use` and `unuse` answer: what the library has for these words from the working directory, if MODULEPATH is text.
abbrev pub Edits : Asking → Command → Reply → Type 0
Edits asking command reply =
    (asking.site.has_text_modulepath ≡ true)
    × ((output : FunctionOutput)
    × GivesOutput asking.shell (Ok output) (answer_of (directory_of asking) asking.env command.0 command.1)
    × IsEdit output reply)

-- Why they are refused.
abbrev pub RefusesEdit : Asking → Command → Refusal → Type 0
RefusesEdit asking command refusals.OutOfMemory = Unit {0}
RefusesEdit asking command (refusals.Numbered numbered) =
    RefusesText asking.site.has_text_modulepath (refusals.Numbered numbered)
RefusesEdit asking command (refusals.Output fault) =
    GivesOutput asking.shell (Err fault) (answer_of (directory_of asking) asking.env command.0 command.1)
RefusesEdit asking command other = ⊥

-- `is-loaded`: yes, if the library's status is 0
abbrev pub TestsLoaded : Asking → List Text → Reply → Type 0
TestsLoaded asking words reply =
    (output : FunctionOutput) × GivesOutput asking.shell (Ok output) (answer_of None asking.env IsLoaded words)
    × (reply ≡ replies.Truth (output.status == 0))

abbrev pub RefusesTest : Asking → List Text → Refusal → Type 0
RefusesTest asking words (refusals.Output fault) =
    GivesOutput asking.shell (Err fault) (answer_of None asking.env IsLoaded words)
RefusesTest asking words other = ⊥
