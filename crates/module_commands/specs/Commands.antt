-- Which call answers a command (module(1), SUB-COMMANDS).
use Rattle.std.specs.Prelude.{ℕ, Bool, true, false, List, [], ◌∷◌, None}
use Rattle.message.specs.Messages.{Text}
use Rattle.filetree.specs.Agreement.{Files, Listings}
use Rattle.module_collections.specs.files.Entries.{Entries}
use Rattle.module_words.specs.declared.protocol.place.Place.{Place}
use Rattle.module_words.specs.declared.protocol.place.Place.TheVariants as places
use Rattle.module_words.specs.declared.subcommands.table.Subcommand.TheVariants as subcommands
use Rattle.module_words.specs.declared.subcommands.table.Subcommand.{Subcommand}
use Rattle.module_words.specs.function.Asked.{Command}
use Rattle.module_subcommands.specs.Collections.{ListsSaved, Reloads, RemovesSaved, RestoresSaved, SavesModules, ShowsSaved}
use Rattle.module_subcommands.specs.Descriptions.{DescribesAll, DescribesSought, HelpsOn, ReportsModules, SaysUsage, SaysVersion}
use Rattle.module_subcommands.specs.Edits.{Edits, TestsLoaded}
use Rattle.module_commands.specs.Forgettings.{ForgetsModules}
use Rattle.module_subcommands.specs.Listings.{ReportsDirectories, ReportsLoaded, ReportsWhatIsThere, TestsAvailable}
use Rattle.module_subcommands.specs.Moves.{MovesModules}
use Rattle.module_subcommands.specs.Reports.{IsPaged, destination_of}
use Rattle.module_subcommands.specs.declared.asking.Asking.{Asking}
use Rattle.module_subcommands.specs.declared.reply.Reply.{Reply}
use Rattle.module_subcommands.specs.declared.reporting.Destination.{Destination}

-- The program can't bring a report there.
abbrev pub is_elsewhere : Place → Bool
is_elsewhere places.Elsewhere = true
is_elsewhere place = false

-- What `whatis`, `use` and `help` answer, by their words: without any, each says another thing.
abbrev pub AnswersWhatis : (Files → Listings → Type 0) → (Files → Listings → Type 0) → (Text → Bool) → ℕ → Asking → Place
    → List Text → Command → Reply → Type 0
AnswersWhatis agrees readable has_failed now asking place [] command reply =
    DescribesAll readable has_failed now asking place None reply
AnswersWhatis agrees readable has_failed now asking place (word ∷ words) command reply =
    ReportsModules agrees asking place command reply

abbrev pub AnswersUse : Asking → Place → List Text → Command → Reply → Type 0
AnswersUse asking place [] command reply = ReportsDirectories asking place reply
AnswersUse asking place (word ∷ words) command reply = Edits asking command reply

abbrev pub AnswersHelp : (Files → Listings → Type 0) → Text → Asking → Place → List Text → Reply → Type 0
AnswersHelp agrees usage asking place [] reply = SaysUsage usage asking place reply
AnswersHelp agrees usage asking place (word ∷ words) reply = HelpsOn agrees asking place (word ∷ words) reply

module _ (agrees readable : Files → Listings → Type 0) (has_failed : Text → Bool) (before now : ℕ)
    (files_before files_now : Entries → Type 0) (usage version : Text) (asking : Asking) where
  -- What a command of a subcommand answers whose report goes there.
  abbrev pub AnswersOf : Subcommand → Destination → Command → Reply → Type 0
  AnswersOf subcommands.Load to command reply = MovesModules agrees asking command reply
  AnswersOf subcommands.Unload to command reply = MovesModules agrees asking command reply
  AnswersOf subcommands.Switch to command reply = MovesModules agrees asking command reply
  AnswersOf subcommands.Purge to command reply = MovesModules agrees asking command reply
  AnswersOf subcommands.Reload to command reply = Reloads agrees asking command reply
  AnswersOf subcommands.Forget to command reply = ForgetsModules agrees asking command reply
  AnswersOf subcommands.List to command reply = ReportsLoaded asking to.kind to.place command.1 reply
  AnswersOf subcommands.Avail to command reply =
      ReportsWhatIsThere readable has_failed before now asking to.kind to.place command.1 reply
  AnswersOf subcommands.Show to command reply = ReportsModules agrees asking to.place command reply
  AnswersOf subcommands.Whatis to command reply =
      AnswersWhatis agrees readable has_failed now asking to.place command.1 command reply
  AnswersOf subcommands.Keyword to command reply =
      DescribesSought readable has_failed now asking to.place command.1 reply
  AnswersOf subcommands.IsLoaded to command reply = TestsLoaded asking command.1 reply
  AnswersOf subcommands.IsAvail to command reply = TestsAvailable readable has_failed before now asking command.1 reply
  AnswersOf subcommands.Use to command reply = AnswersUse asking to.place command.1 command reply
  AnswersOf subcommands.Unuse to command reply = Edits asking command reply
  AnswersOf subcommands.Save to command reply = SavesModules agrees files_before files_now asking command.1 reply
  AnswersOf subcommands.Restore to command reply = RestoresSaved agrees files_now asking command reply
  AnswersOf subcommands.SaveList to command reply = ListsSaved files_now asking to.place command.1 reply
  AnswersOf subcommands.SaveShow to command reply = ShowsSaved files_now asking to.place command.1 reply
  AnswersOf subcommands.SaveRemove to command reply = RemovesSaved files_before files_now asking command.1 reply
  AnswersOf subcommands.Help to command reply = AnswersHelp agrees usage asking to.place command.1 reply
  AnswersOf subcommands.Version to command reply = SaysVersion version to.place reply

  -- What a command answers whose report goes there.
  abbrev pub AnswersAt : Destination → Command → Reply → Type 0
  AnswersAt to command reply = AnswersOf command.0 to command reply

  -- What it answers by whether the program reaches the place of its report: where it doesn't, the function asks again.
  abbrev pub AnswersIf : Bool → Destination → Command → Reply → Type 0
  AnswersIf true to command reply = IsPaged [] reply
  AnswersIf false to command reply = AnswersAt to command reply

  -- What a command answers.
  abbrev pub AnswersCommand : Command → Reply → Type 0
  AnswersCommand command reply =
      AnswersIf (is_elsewhere (destination_of asking command.0 command.1).place)
      (destination_of asking command.0 command.1) command reply
